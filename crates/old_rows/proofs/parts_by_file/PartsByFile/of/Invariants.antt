use Rattle.std.specs.BTreeMap.{get}
use Rattle.std.specs.Ordering.{nat_cmp}
use Rattle.old_rows.proofs.PartFacts.{FindsFirst}
use Rattle.old_rows.proofs.parts_by_file.PartsByFile.of.Given as goal

abbrev pub invariant-loop-i : goal.invariant-loop-i
invariant-loop-i g l = FindsFirst (get nat_cmp l.parts) l.i l.snapshot.parts
