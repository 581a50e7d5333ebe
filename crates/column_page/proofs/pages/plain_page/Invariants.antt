use Rattle.std.proofs.Common.{◌≡◌, ◌∷◌, take}
use Rattle.std.specs.List.{concat}
use Rattle.column_page.specs.Texts.{lent}
use Rattle.column_page.proofs.pages.plain_page.Given as goal

abbrev pub invariant-loop-cell : goal.invariant-loop-cell
invariant-loop-cell l = l.page.items ≡ 0 ∷ concat (take l.cell-index (lent l.cells))
