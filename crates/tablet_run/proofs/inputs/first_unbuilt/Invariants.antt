use Rattle.std.proofs.Common.{◌≡◌, ◌+◌, drop}
use Rattle.tablet_run.specs.Asks.{first_unbuilt}
use Rattle.tablet_run.proofs.inputs.first_unbuilt.Given as goal

abbrev pub invariant-loop-i : goal.invariant-loop-i
invariant-loop-i l = first_unbuilt (l.i + 1) (drop l.i l.jobs) ≡ first_unbuilt 1 l.jobs
