use Rattle.std.proofs.Common.{◌≡◌, ◌++◌, ◌+◌, ◌-◌, ◌≤◌, drop, length}
use Rattle.rowsets.specs.Marks.{with_rows}
use Rattle.del_vector.proofs.unions.union.Given as goal

abbrev pub invariant-loop-i : goal.invariant-loop-i
invariant-loop-i l = record {
  rows_within : l.i ≤ length l.rows;
  dead_within : l.j ≤ length l.dead;
  left : l.united.items ++ with_rows (drop l.i l.rows) (drop l.j l.dead) ≡ with_rows l.rows l.dead;
}

abbrev pub decreases-loop-i : goal.decreases-loop-i
decreases-loop-i l = length l.rows + length l.dead - (l.i + l.j)
