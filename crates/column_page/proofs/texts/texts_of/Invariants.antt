use Rattle.std.proofs.Common.{map, take}
use Rattle.column_page.specs.CellBytes.{cell_bytes}
use Rattle.column_page.specs.Texts.{AreTexts}
use Rattle.column_page.proofs.texts.texts_of.Given as goal

abbrev pub invariant-loop-value : goal.invariant-loop-value
invariant-loop-value l = AreTexts l.texts.bytes.items l.texts.lens.items (map (cell_bytes l.column) (take l.value-index l.cells))
