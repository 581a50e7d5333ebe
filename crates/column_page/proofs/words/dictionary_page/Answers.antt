use Rattle.std.proofs.Common.{◌≡◌, ◌<◌, ◌+◌, ◌∷◌, ◌++◌, ℕ, List, Bor, get_or, length, take, sym, ap, ◌∙◌}
use Rattle.std.specs.List.{concat}
use Rattle.column_page.specs.CellBytes.{u16_bytes}
use Rattle.column_page.specs.Page.{Cell}
use Rattle.column_page.specs.Texts.{lent}
use Rattle.column_page.proofs.TextFacts.{put_text}
use Rattle.column_page.proofs.words.dictionary_page.Goals as goal

-- the same of a slice of these keys
put_word : (head out new : List ℕ) (keys slice : List (Bor Cell)) (i : ℕ) (d : Bor Cell) → slice ≡ keys → i < length slice → out ≡ head ++ concat (take i (lent keys)) → new ≡ out ++ (get_or slice i d).now → new ≡ head ++ concat (take (i + 1) (lent keys))
put_word head out new keys slice i d e lt so_far put =
    put_text head out new slice i d lt (so_far ∙ ap (λ (ks : List (Bor Cell)). head ++ concat (take i (lent ks))) (sym e)) put ∙ ap (λ (ks : List (Bor Cell)). head ++ concat (take (i + 1) (lent ks))) e

pub loop-word-preserved : goal.loop-word-preserved
loop-word-preserved c =
    let keys = c.args.words.now.words.keys in
    put_word (2 ∷ u16_bytes (length keys)) c.loop-word.page.items c.extend_from_slice.new.self.items keys c.as_slice-word-items.result.now c.loop-word.word-index _ (c.as_slice-word-items.ensures).keys c.loop-word-test.true c.loop-word.invariant c.in_ok-extend_from_slice.ensures.items
