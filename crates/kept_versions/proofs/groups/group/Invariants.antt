use Rattle.std.proofs.Common.{◌≡◌, ◌++◌, ◌-◌, ◌^◌, ◌<◌, ◌≤◌, drop, length}
use Rattle.std.specs.List.{AllByRecursion}
use Rattle.kept_versions.specs.Marking.{are_small, grouped}
use Rattle.kept_versions.proofs.groups.group.Given as goal

abbrev pub invariant-loop-i : goal.invariant-loop-i
invariant-loop-i l = record {
  within : l.i ≤ length l.dead;
  groups : l.changed ++ grouped (drop l.i l.dead) ≡ grouped l.dead;
  range : AllByRecursion (λ c. c.file < 2 ^ 64) l.changed;
  small : are_small (drop l.i l.dead) ≡ are_small l.dead;
}

abbrev pub decreases-loop-i : goal.decreases-loop-i
decreases-loop-i l = length l.dead - l.i
