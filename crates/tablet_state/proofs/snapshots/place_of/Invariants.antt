use Rattle.std.proofs.Common.{◌-◌}
use Rattle.tablet_state.specs.Seen.{segments_of}
use Rattle.tablet_state.proofs.Lending.{Searched}
use Rattle.tablet_state.proofs.snapshots.place_of.Given as goal

abbrev pub invariant-loop-low : goal.invariant-loop-low
invariant-loop-low g l = Searched (segments_of g.R.SealedReader.view l.segments) l.file l.low l.high

abbrev pub decreases-loop-low : goal.decreases-loop-low
decreases-loop-low g l = l.high - l.low
