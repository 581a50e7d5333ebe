use Rattle.std.proofs.Common.{◌≡◌, take, None}
use Rattle.std.specs.Ordering.{nat_cmp}
use Rattle.std.specs.FinMap.Entries.{find}
use Rattle.dev_memory.specs.Disk.{entries_at}
use Rattle.dev_memory.proofs.kept.change_file.Given as goal

abbrev pub invariant-loop-i : goal.invariant-loop-i
invariant-loop-i l = record {
  none : find nat_cmp l.number (entries_at l.calls (take l.i l.initial.files)) ≡ None;
  same : l.files ≡ l.initial.files;
}
