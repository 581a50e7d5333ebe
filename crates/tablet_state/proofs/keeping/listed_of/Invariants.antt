use Rattle.std.proofs.Common.{◌≡◌, map, take}
use Rattle.std.specs.List.{filter}
use Rattle.tablet_state.specs.Floors.{is_listed}
use Rattle.tablet_state.proofs.keeping.listed_of.Given as goal

abbrev pub invariant-loop-segment : goal.invariant-loop-segment
invariant-loop-segment g l = l.keep.items ≡ filter (is_listed l.numbers) (take l.segment-index (map (λ x. x.number) l.segments))
