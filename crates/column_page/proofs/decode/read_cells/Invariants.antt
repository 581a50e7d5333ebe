use Rattle.std.proofs.Common.{◌≡◌, ◌≤◌, List, ℕ, length}
use Rattle.column_page.specs.Page.{AllFit, Cell}
use Rattle.column_page.specs.Reading.{CellsThen, HaveRead}
use Rattle.column_page.proofs.decode.read_cells.Given as goal

abbrev pub invariant-loop-i : goal.invariant-loop-i
invariant-loop-i l = record {
  fit : AllFit l.column l.values.items;
  number : length l.values.items ≡ l.i;
  within : l.at ≤ length l.bytes;
  so_far : (cells : List Cell) (rest : List ℕ) → CellsThen l.column l.count l.bytes cells rest → HaveRead l.column l.values.items l.i l.at l.bytes cells rest;
}
