use Rattle.std.proofs.Common.{length}
use Rattle.version_journal.specs.Reading.{SoFar}
use Rattle.version_journal.proofs.replaying.replay.Given as goal

abbrev pub invariant-loop-left : goal.invariant-loop-left
invariant-loop-left l = SoFar l.fn.bodies l.left l.records.items l.replay

abbrev pub decreases-loop-left : goal.decreases-loop-left
decreases-loop-left l = length l.left
