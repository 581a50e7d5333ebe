use Rattle.std.proofs.Common.{◌≡◌, List, take, drop}
use Rattle.std.specs.List.{concat}
use Rattle.column_page.specs.Page.{Cell}
use Rattle.column_page.specs.Texts.{lent, AreTexts}
use Rattle.column_page.proofs.texts.pieces.Given as goal

abbrev pub invariant-loop-len : goal.invariant-loop-len
invariant-loop-len l = (cells : List Cell) → AreTexts l.bytes l.lens cells → (lent l.pieces.items ≡ take l.len-index cells) × (l.rest ≡ concat (drop l.len-index cells))
