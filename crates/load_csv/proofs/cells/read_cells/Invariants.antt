use Rattle.std.proofs.Common.{◌≡◌, ◌+◌, drop, length}
use Rattle.csv.specs.Records.{fields_of}
use Rattle.load_csv.specs.Lines.{cells_of, with_fields}
use Rattle.load_csv.proofs.cells.read_cells.Given as goal

abbrev pub invariant-loop-i : goal.invariant-loop-i
invariant-loop-i l = record {
  width : length l.cells.items ≡ length l.schema.columns;
  rest : with_fields l.schema l.n l.delete (l.i + 1) l.cells.items (drop l.i l.fields) (drop l.i (fields_of l.row)) ≡ cells_of l.schema l.fields l.n l.delete (fields_of l.row);
}
