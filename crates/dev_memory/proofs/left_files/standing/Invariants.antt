use Rattle.std.proofs.Common.{◌≡◌, ◌++◌, true, drop}
use Rattle.std.specs.List.{list_all}
use Rattle.dev_memory.specs.Disk.{entries_at}
use Rattle.dev_memory.specs.Images.{is_short_file}
use Rattle.dev_memory.proofs.left_files.standing.Given as goal

abbrev pub invariant-loop-i : goal.invariant-loop-i
invariant-loop-i l = record {
  stand : l.left.items ++ entries_at l.calls (drop l.i l.files) ≡ entries_at l.calls l.files;
  short : list_all is_short_file l.left.items ≡ true;
}
