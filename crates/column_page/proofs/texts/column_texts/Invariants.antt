use Rattle.std.proofs.Common.{map, take}
use Rattle.column_page.specs.CellBytes.{cell_bytes}
use Rattle.column_page.specs.Page.{column_cells}
use Rattle.column_page.specs.Texts.{AreTexts}
use Rattle.column_page.proofs.texts.column_texts.Given as goal

abbrev pub invariant-loop-row : goal.invariant-loop-row
invariant-loop-row l = AreTexts l.texts.bytes.items l.texts.lens.items (map (cell_bytes l.column) (take l.row-index (column_cells l.place l.rows)))
