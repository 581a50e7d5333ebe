-- Rising keys, place by place.
use Rattle.std.proofs.Common.{◌≡◌, ℕ, zero, suc, ◌-◌, ◌<◌, ◌≤◌, Bool, true, false, List, [], ◌∷◌, IsTrue, length, get_or, sym, ap, ◌∙◌, arith}
use Rattle.std.proofs.lemmas.List.{get_or_read}
use Rattle.std.specs.Ordering.{is_lt}
use Rattle.pk_values.specs.Order.{key_cmp}
use Rattle.pk_values.specs.Schemas.{Layout, key_of}
use Rattle.pk_values.specs.declared.cells.Value.{Value}
use Rattle.segment_form.specs.Segments.{KeysRise}

-- the key of a row is less than that of another one
abbrev pub Below : Layout → List Value → List Value → Type 0
Below s a b = IsTrue (is_lt (key_cmp (key_of s a) (key_of s b)))

pub rise_from : (s : Layout) (rows : List (List Value)) → ((k : ℕ) (d : List Value) → suc k < length rows → Below s (get_or rows k d) (get_or rows (suc k) d)) → KeysRise s rows
rise_from s [] each = tt
rise_from s (a ∷ []) each = tt
rise_from s (a ∷ b ∷ rows) each = (each 0 a (omega arith), rise_from s (b ∷ rows) (λ k d lt. each (suc k) d (omega arith)))

pub rise_at : (s : Layout) (rows : List (List Value)) (k : ℕ) (d : List Value) → KeysRise s rows → suc k < length rows → Below s (get_or rows k d) (get_or rows (suc k) d)
rise_at s [] k d rise lt = absurd (omega arith)
rise_at s (a ∷ []) k d rise lt = absurd (omega arith)
rise_at s (a ∷ b ∷ rows) zero d rise lt = rise.0
rise_at s (a ∷ b ∷ rows) (suc k) d rise lt = rise_at s (b ∷ rows) k d rise.1 (omega arith)

pub not_below : (s : Layout) (rows : List (List Value)) (i : ℕ) (a b : List Value) (below : Bool) → 1 ≤ i → i < length rows → a ≡ get_or rows (i - 1) a → b ≡ get_or rows i b
    → below ≡ is_lt (key_cmp (key_of s a) (key_of s b)) → below ≡ false → KeysRise s rows → ⊥
not_below s rows i a b below some lt first second told is rise =
    let next : suc (i - 1) ≡ i = omega arith in
    let at : Below s (get_or rows (i - 1) a) (get_or rows (suc (i - 1)) a) = rise_at s rows (i - 1) a rise (omega arith) in
    let b_is : b ≡ get_or rows (suc (i - 1)) a = get_or_read rows i b lt second a ∙ ap (λ (k : ℕ). get_or rows k a) (sym next) in
    let one : below ≡ true = told ∙ ap (λ (r : List Value). is_lt (key_cmp (key_of s r) (key_of s b))) first ∙ ap (λ (r : List Value). is_lt (key_cmp (key_of s (get_or rows (i - 1) a)) (key_of s r))) b_is ∙ at in
    cc
