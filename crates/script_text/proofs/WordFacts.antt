-- What words and lines a text has.
use Rattle.std.proofs.Common.{◌≡◌, refl, sym, ◌∙◌, ap, ℕ, ◌+◌, ◌<◌, List, [], ◌∷◌, ◌++◌, Bool, true, false, ◌==◌, if◌then◌else◌, arith, length, drop, take, get_or, ◌-◌}
use Rattle.std.specs.Prelude.{All, filter}
use Rattle.std.specs.List.{slice_split}
use Rattle.std.specs.Str.Lines.{lines, lines_of_parts, strip_carriage_return}
use Rattle.std.specs.Str.{IsUtf8, is_utf8}
use Rattle.std.proofs.lemmas.Str.{IsUtf8-from_is_utf8, is_utf8-from_IsUtf8}
use Rattle.std.proofs.lemmas.Bool.{false≢true}
use Rattle.std.proofs.lemmas.Bool.Decides.{nat_tests}
use Rattle.std.proofs.lemmas.List.{at_drop_more, drop_more, take-append-drop}
use Rattle.std.proofs.lemmas.Grind.{common_steps}
use Rattle.std.proofs.lemmas.List.Splits.{slice_split-cons_yes, slice_split_none, slice_split_at, length-slice_split}
use Rattle.script_text.specs.Scripts.{is_blank, is_filled, words_of}
use Rattle.script_text.specs.Cuts.{IsCut, begins_with_blank, is_line_feed}

-- a blank in front changes no word
pub words_blank : (b : ℕ) (bs : List ℕ) → is_blank b ≡ true → words_of (b ∷ bs) ≡ words_of bs
words_blank b bs blank = ap (filter is_filled) (slice_split-cons_yes is_blank b bs blank)

pub words_more : (xs : List ℕ) (i : ℕ) → i < length xs → is_blank (get_or xs i 0) ≡ true → words_of (drop (i + 1) xs) ≡ words_of (drop i xs)
words_more xs i within blank = sym (at_drop_more words_of xs i 0 within ∙ words_blank (get_or xs i 0) (drop (i + 1) xs) blank)

-- the word before a blank
pub words_cut : (text front rest : List ℕ) → IsCut is_blank text front rest → begins_with_blank text ≡ false → words_of text ≡ front ∷ words_of rest
words_cut text [] rest cut begins = absurd (false≢true (sym begins ∙ ap begins_with_blank cut.text_is ∙ cut.at_passes))
words_cut text (b ∷ bs) rest cut begins = ap words_of cut.text_is ∙ ap (filter is_filled) (slice_split_at is_blank (b ∷ bs) cut.at rest cut.front_fails cut.at_passes)

-- a text without a blank is one word
pub words_one : (text : List ℕ) → All (λ b. is_blank b ≡ false) text → 0 < length text → words_of text ≡ text ∷ []
words_one [] none some = absurd (omega arith)
words_one (b ∷ bs) none some = ap (filter is_filled) (slice_split_none is_blank (b ∷ bs) none)

lines_behind : (front : List ℕ) (parts : List (List ℕ)) → 0 < length parts → lines_of_parts (front ∷ parts) ≡ strip_carriage_return front ∷ lines_of_parts parts
lines_behind front [] some = absurd (omega arith)
lines_behind front (part ∷ parts) some = refl

-- the line before a line feed
pub lines_cut : (text front rest : List ℕ) → IsCut is_line_feed text front rest → lines text ≡ strip_carriage_return front ∷ lines rest
lines_cut text front rest cut =
    let some : 0 < length (slice_split is_line_feed rest) = omega (arith, length-slice_split is_line_feed rest) in
    ap lines cut.text_is ∙ ap lines_of_parts (slice_split_at is_line_feed front cut.at rest cut.front_fails cut.at_passes) ∙ lines_behind front (slice_split is_line_feed rest) some

-- a text without a line feed is one line
pub lines_one : (text : List ℕ) → All (λ b. is_line_feed b ≡ false) text → 0 < length text → lines text ≡ text ∷ []
lines_one [] none some = absurd (omega arith)
lines_one (b ∷ bs) none some =
    let filled : (length (b ∷ bs) == 0) ≡ false = grind (arith, nat_tests) in
    ap lines_of_parts (slice_split_none is_line_feed (b ∷ bs) none) ∙ ap (λ (t : Bool). if t then [] else (b ∷ bs) ∷ []) filled

pub utf8_test : (bs : List ℕ) → IsUtf8 bs → true ≡ is_utf8 bs
utf8_test bs text = sym (is_utf8-from_IsUtf8 bs text)

no_by_test : (bs : List ℕ) (t : Bool) → is_utf8 bs ≡ t → ¬ (IsUtf8 bs) → false ≡ t
no_by_test bs true e none = absurd (none (IsUtf8-from_is_utf8 bs e))
no_by_test bs false e none = refl

pub no_utf8_test : (bs : List ℕ) → ¬ (IsUtf8 bs) → false ≡ is_utf8 bs
no_utf8_test bs none = no_by_test bs (is_utf8 bs) refl none

-- a text is cut at the first byte that passes
pub cut_at : (passes : ℕ → Bool) (text : List ℕ) (i : ℕ) → i < length text → passes (get_or text i 0) ≡ true → All (λ b. passes b ≡ false) (take i text)
    → IsCut passes text (take i text) (take (length text - (i + 1)) (drop (i + 1) text))
cut_at passes text i within passed front =
    let rest : take (length text - (i + 1)) (drop (i + 1) text) ≡ drop (i + 1) text = grind (arith, common_steps) in
    record {
      at = get_or text i 0;
      text_is = sym (take-append-drop i text) ∙ ap (λ xs. take i text ++ xs) (drop_more text i 0 within) ∙ ap (λ xs. take i text ++ get_or text i 0 ∷ xs) (sym rest);
      front_fails = front;
      at_passes = passed;
    }
