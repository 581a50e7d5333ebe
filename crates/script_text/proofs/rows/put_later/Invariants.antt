use Rattle.std.proofs.Common.{◌≡◌, ◌++◌, drop, length, take}
use Rattle.script_text.specs.Texts.{later_cells}
use Rattle.script_text.proofs.rows.put_later.Given as goal

abbrev pub invariant-loop-cell : goal.invariant-loop-cell
invariant-loop-cell l = record {
  text : l.text.items ++ later_cells (drop l.cell-index l.cells) ≡ l.initial.text.items ++ later_cells l.cells;
  before : take (length l.initial.text.items) l.text.items ≡ l.initial.text.items;
}
