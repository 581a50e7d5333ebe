use Rattle.std.proofs.Common.{◌≤◌, ◌<◌, ◌-◌, length}
use Rattle.std.specs.List.{AllWithin}
use Rattle.kept_versions.specs.Marking.{changed_numbers}
use Rattle.kept_versions.proofs.lookups.place_of.Given as goal

abbrev pub invariant-loop-low : goal.invariant-loop-low
invariant-loop-low l = record {
  low : l.low ≤ l.high;
  high : l.high ≤ length l.changed;
  before : AllWithin (λ n. n < l.file) (changed_numbers l.changed) 0 l.low;
  behind : AllWithin (λ n. l.file ≤ n) (changed_numbers l.changed) l.high (length l.changed);
}

abbrev pub decreases-loop-low : goal.decreases-loop-low
decreases-loop-low l = l.high - l.low
