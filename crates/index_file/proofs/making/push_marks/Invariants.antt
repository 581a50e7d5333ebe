use Rattle.std.proofs.Common.{◌≡◌, ◌++◌, take}
use Rattle.std.specs.List.{flat_map}
use Rattle.index_file.specs.Buckets.{mark_bytes}
use Rattle.index_file.proofs.making.push_marks.Given as goal

abbrev pub invariant-loop-mark : goal.invariant-loop-mark
invariant-loop-mark l = l.out.items ≡ l.initial.out.items ++ flat_map mark_bytes (take l.mark-index l.marks)
