-- Rows with rising keys behind others.
use Rattle.std.proofs.Common.{◌≡◌, suc, ◌-◌, ◌≤◌, ℕ, Bool, List, [], ◌∷◌, ◌++◌, IsTrue, length, get_or, subst, sym, ◌∙◌, arith}
use Rattle.std.specs.Ordering.{is_lt}
use Rattle.pk_values.specs.Order.{key_cmp}
use Rattle.pk_values.specs.Schemas.{Layout, key_of}
use Rattle.pk_values.specs.declared.cells.Value.{Value}
use Rattle.segment_form.specs.Segments.{KeysRise}
use Rattle.segment_form.proofs.Rising.{Below}

pub rise_joined : (s : Layout) (xs ys : List (List Value)) (d e : List Value) → KeysRise s xs → KeysRise s ys → (1 ≤ length xs → 1 ≤ length ys → Below s (get_or xs (length xs - 1) d) (get_or ys 0 e)) → KeysRise s (xs ++ ys)
rise_joined s [] ys d e rise on below = on
rise_joined s (a ∷ []) [] d e rise on below = tt
rise_joined s (a ∷ []) (y ∷ ys) d e rise on below = (below (omega arith) (omega arith), on)
rise_joined s (a ∷ b ∷ xs) ys d e rise on below =
    let same : length (a ∷ b ∷ xs) - 1 ≡ suc (length (b ∷ xs) - 1) = omega arith in
    (rise.0, rise_joined s (b ∷ xs) ys d e rise.1 on (λ some some'. subst (λ (k : ℕ). Below s (get_or (a ∷ b ∷ xs) k d) (get_or ys 0 e)) same (below (omega arith) some')))

pub below_joined : (s : Layout) (xs ys : List (List Value)) (d e : List Value) → KeysRise s (xs ++ ys) → 1 ≤ length xs → 1 ≤ length ys → Below s (get_or xs (length xs - 1) d) (get_or ys 0 e)
below_joined s [] ys d e rise some some' = absurd (omega arith)
below_joined s (a ∷ []) [] d e rise some some' = absurd (omega arith)
below_joined s (a ∷ []) (y ∷ ys) d e rise some some' = rise.0
below_joined s (a ∷ b ∷ xs) ys d e rise some some' =
    let same : suc (length (b ∷ xs) - 1) ≡ length (a ∷ b ∷ xs) - 1 = omega arith in
    subst (λ (k : ℕ). Below s (get_or (a ∷ b ∷ xs) k d) (get_or ys 0 e)) same (below_joined s (b ∷ xs) ys d e rise.1 (omega arith) some')

-- the same, by the last row and the first one
pub on_last : (s : Layout) (xs ys : List (List Value)) (last first : List Value) (below : Bool) → KeysRise s xs → KeysRise s ys → 1 ≤ length xs → 1 ≤ length ys → last ≡ get_or xs (length xs - 1) last → first ≡ get_or ys 0 first
    → below ≡ is_lt (key_cmp (key_of s last) (key_of s first)) → (IsTrue below → KeysRise s (xs ++ ys)) × (KeysRise s (xs ++ ys) → IsTrue below)
on_last s xs ys last first below rise on some some' l f told = (
  λ t. rise_joined s xs ys last first rise on (λ a b. subst (λ (r : List Value). Below s r (get_or ys 0 first)) l (subst (λ (r : List Value). Below s last r) f (sym told ∙ t))),
  λ r. told ∙ subst (λ (x : List Value). Below s x first) (sym l) (subst (λ (x : List Value). Below s (get_or xs (length xs - 1) last) x) (sym f) (below_joined s xs ys last first r some some')),
)
