use Rattle.std.proofs.Common.{◌≡◌, ◌≤◌, drop, length}
use Rattle.column_page.specs.Footers.{mark_of}
use Rattle.column_page.proofs.marks.mark_of.Given as goal

abbrev pub invariant-loop-left : goal.invariant-loop-left
invariant-loop-left l = record {
  within : l.left ≤ length l.cells;
  so_far : l.mark ≡ mark_of (drop l.left l.cells);
}

abbrev pub decreases-loop-left : goal.decreases-loop-left
decreases-loop-left l = l.left
