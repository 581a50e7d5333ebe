use Rattle.std.proofs.Common.{◌≡◌, ◌+◌, ◌-◌, ◌≤◌, drop, length}
use Rattle.kept_versions.specs.Marking.{run}
use Rattle.kept_versions.proofs.groups.run_end.Given as goal

abbrev pub invariant-loop-end : goal.invariant-loop-end
invariant-loop-end l = record {
  within : l.end ≤ length l.dead;
  same : l.end + run l.file (drop l.end l.dead) ≡ l.from + run l.file (drop l.from l.dead);
}

abbrev pub decreases-loop-end : goal.decreases-loop-end
decreases-loop-end l = length l.dead - l.end
