use Rattle.std.proofs.Common.{◌≡◌, ◌++◌, take, drop}
use Rattle.segment_read.specs.Columns.{with_column}
use Rattle.segment_read.proofs.columns.add_column.Given as goal

abbrev pub invariant-loop-row : goal.invariant-loop-row
invariant-loop-row l = record {
  done : l.row-items ≡ with_column (take l.row-index l.fn.rows.items) (take l.row-index l.fn.cells.items) ++ drop l.row-index l.fn.rows.items;
  left : l.cells.rest.items ≡ drop l.row-index l.fn.cells.items;
}
