use Rattle.std.proofs.Common.{◌≡◌, ◌≤◌, drop, length}
use Rattle.column_page.specs.Footers.{mark_of}
use Rattle.column_page.specs.Page.{column_cells}
use Rattle.column_page.proofs.marks.column_mark.Given as goal

abbrev pub invariant-loop-left : goal.invariant-loop-left
invariant-loop-left l = record {
  within : l.left ≤ length l.rows;
  so_far : l.mark ≡ mark_of (drop l.left (column_cells l.place l.rows));
}

abbrev pub decreases-loop-left : goal.decreases-loop-left
decreases-loop-left l = l.left
