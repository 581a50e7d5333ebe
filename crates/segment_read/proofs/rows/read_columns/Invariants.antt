use Rattle.std.proofs.Common.{◌≡◌, ◌≤◌, ◌++◌, List, All, IsTrue, length, drop, take}
use Rattle.pk_values.specs.Fits.{fits_all}
use Rattle.pk_values.specs.declared.cells.Value.{Value}
use Rattle.segment_form.specs.Segments.{marks_of, pages}
use Rattle.segment_read.specs.Columns.{AreRowsOf, HaveColumns}
use Rattle.segment_read.proofs.rows.read_columns.Given as goal

abbrev pub invariant-loop-i : goal.invariant-loop-i
invariant-loop-i l = record {
  fit : All (λ row. IsTrue (fits_all (take l.i l.columns) row)) l.rows.items;
  number : length l.rows.items ≡ l.count;
  within : l.at ≤ length l.body;
  written : pages 0 (take l.i l.columns) l.rows.items ++ drop l.at l.body ≡ l.body;
  marked : marks_of 0 (take l.i l.columns) l.rows.items ≡ take l.i l.marks;
  so_far : (rows : List (List Value)) → AreRowsOf l.columns l.count l.marks l.body rows → HaveColumns l.columns l.marks l.body l.rows.items l.i l.at rows;
}
