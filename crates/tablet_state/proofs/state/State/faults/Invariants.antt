use Rattle.std.proofs.Common.{◌≡◌, ◌+◌, ◌-◌, ◌^◌, min, take}
use Rattle.tablet_state.specs.State.{reader_faults}
use Rattle.tablet_state.proofs.state.State.faults.Given as goal

abbrev pub invariant-loop-segment : goal.invariant-loop-segment
invariant-loop-segment g l = l.faults ≡ min ((g.S.Store.view l.self.store).faults + l.self.maker_faults + reader_faults (take l.segment-index l.self.segments)) (2 ^ 64 - 1)
