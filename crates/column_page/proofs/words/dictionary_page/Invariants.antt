use Rattle.std.proofs.Common.{◌≡◌, ◌∷◌, ◌++◌, take, length}
use Rattle.std.specs.List.{concat}
use Rattle.column_page.specs.CellBytes.{u16_bytes}
use Rattle.column_page.specs.Texts.{lent}
use Rattle.column_page.proofs.words.dictionary_page.Given as goal

abbrev pub invariant-loop-word : goal.invariant-loop-word
invariant-loop-word l = l.page.items ≡ (2 ∷ u16_bytes (length l.words.words.keys)) ++ concat (take l.word-index (lent l.words.words.keys))
