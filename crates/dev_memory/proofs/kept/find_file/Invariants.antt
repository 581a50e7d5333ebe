use Rattle.std.proofs.Common.{◌≡◌, drop}
use Rattle.std.specs.Ordering.{nat_cmp}
use Rattle.std.specs.FinMap.Entries.{find}
use Rattle.dev_memory.specs.Disk.{entries_at}
use Rattle.dev_memory.proofs.kept.find_file.Given as goal

abbrev pub invariant-loop-i : goal.invariant-loop-i
invariant-loop-i l = find nat_cmp l.number (entries_at l.calls (drop l.i l.files)) ≡ find nat_cmp l.number (entries_at l.calls l.files)
