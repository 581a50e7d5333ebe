-- Binary search among keys in order.
use Rattle.std.proofs.Common.{◌≡◌, refl, ap, subst, ◌∙◌, ℕ, ◌+◌, ◌≤◌, ◌<◌, suc, zero, arith, List, [], ◌∷◌, length, Some, None, cond, false, T, get_or, add-one}
use Rattle.std.specs.List.{zip}
use Rattle.std.specs.List.Sorted.{IsBinarySearchResult}
use Rattle.std.specs.Ordering.{eq_by_cmp, is_lt, is_eq, ordering_reverse}
use Rattle.std.specs.declared.cmp.Ordering.{Ordering}
use Rattle.std.specs.declared.cmp.Ordering.TheVariants.{Less, Equal, Greater}
use Rattle.std.specs.Cmp.{tied_back, alike_right}
use Rattle.std.specs.FinMap.Entries.{find, below_all, is_sorted}
use Rattle.std.proofs.lemmas.List.Sorted.{searchable_from_sorted}
use Rattle.std.proofs.Common.{Err, inl, inr}
use Rattle.std.proofs.lemmas.Bool.{cases_lt}
use Rattle.pk_values.specs.Order.{key_cmp}
use Rattle.pk_values.specs.OrderFacts.{key_total}
use Rattle.pk_values.specs.declared.cells.Value.{Value}
use Rattle.pk_model.proofs.RunLaws as run

-- a key below another is below each that ties with it
above-head : (a x q : List Value) → T (is_lt (key_cmp a x)) → key_cmp x q ≡ Equal → eq_by_cmp key_cmp q a ≡ false
above-head a x q h t = ap is_eq (run.greater a q (subst (λ o. T (is_lt o)) (alike_right key_total x q a t) h))

key-above : (a : List Value) (ks vs : List (List Value)) (i : ℕ) (d : List Value) → length ks ≡ length vs → i < length ks → T (below_all key_cmp a (zip ks vs)) → T (is_lt (key_cmp a (get_or ks i d)))
key-above a [] vs i d e l h = absurd (omega arith)
key-above a (k ∷ ks) [] i d e l h = absurd (omega arith)
key-above a (k ∷ ks) (v ∷ vs) zero d e l h = run.first _ _ h
key-above a (k ∷ ks) (v ∷ vs) (suc i) d e l h =
    let f : length ks ≡ length vs = omega arith in
    let n : i < length ks = omega arith in
    key-above a ks vs i d f n (run.second _ _ h)

-- the row beside a key that is found
pub found-at : (q : List Value) (ks vs : List (List Value)) (i : ℕ) (d w : List Value) → length ks ≡ length vs → i < length ks → T (is_sorted key_cmp (zip ks vs)) → key_cmp (get_or ks i d) q ≡ Equal → find key_cmp q (zip ks vs) ≡ Some (get_or vs i w)
found-at q [] vs i d w e l s t = absurd (omega arith)
found-at q (k ∷ ks) [] i d w e l s t = absurd (omega arith)
found-at q (k ∷ ks) (v ∷ vs) zero d w e l s t = ap (λ o. cond (is_eq o) (Some v) (find key_cmp q (zip ks vs))) (tied_back key_total k q t)
found-at q (k ∷ ks) (v ∷ vs) (suc i) d w e l s t =
    let f : length ks ≡ length vs = omega arith in
    let n : i < length ks = omega arith in
    ap (λ b. cond b (Some v) (find key_cmp q (zip ks vs))) (above-head k (get_or ks i d) q (key-above k ks vs i d f n (run.first _ _ s)) t)
    ∙ found-at q ks vs i d w f n (run.second _ _ s) t

-- no key ties
pub found-nowhere : (q : List Value) (ks vs : List (List Value)) → length ks ≡ length vs → ((i : ℕ) (d : List Value) → i < length ks → eq_by_cmp key_cmp q (get_or ks i d) ≡ false) → find key_cmp q (zip ks vs) ≡ None
found-nowhere q [] vs e h = refl
found-nowhere q (k ∷ ks) [] e h = refl
found-nowhere q (k ∷ ks) (v ∷ vs) e h =
    let f : length ks ≡ length vs = omega arith in
    ap (λ b. cond b (Some v) (find key_cmp q (zip ks vs))) (h 0 k (omega arith)) ∙ found-nowhere q ks vs f (λ i d l. h (suc i) d (omega arith))

apart : (x q : List Value) (o : Ordering) → key_cmp x q ≡ o → is_eq o ≡ false → eq_by_cmp key_cmp q x ≡ false
apart x q o e n = ap is_eq (key_total.antisymm q x ∙ ap ordering_reverse e) ∙ by o n
  where
    by : (o : Ordering) → is_eq o ≡ false → is_eq (ordering_reverse o) ≡ false
    by Less n = refl
    by Equal n = cc
    by Greater n = refl

falling : (a b : List Value) → T (is_lt (key_cmp a b)) → is_lt (key_cmp b a) ≡ false
falling a b h = ap is_lt (run.greater a b h)

rising : (ks vs : List (List Value)) → length ks ≡ length vs → T (is_sorted key_cmp (zip ks vs)) → (k : ℕ) (d : List Value) → 0 ≤ k → k + 1 < length ks → is_lt (key_cmp (get_or ks (k + 1) d) (get_or ks k d)) ≡ false
rising [] vs e s k d z l = absurd (omega arith)
rising (j ∷ ks) [] e s k d z l = absurd (omega arith)
rising (j ∷ ks) (v ∷ vs) e s zero d z l =
    let f : length ks ≡ length vs = omega arith in
    let n : 0 < length ks = omega arith in
    falling j (get_or ks 0 d) (key-above j ks vs 0 d f n (run.first _ _ s))
rising (j ∷ ks) (v ∷ vs) e s (suc k) d z l =
    let f : length ks ≡ length vs = omega arith in
    let n : k + 1 < length ks = omega arith in
    let later : is_lt (key_cmp (get_or ks (suc k) d) (get_or ks k d)) ≡ false = rw (add-one) at (rising ks vs f (run.second _ _ s) k d (omega arith) n) in
    rw (add-one) later

pub found-none : (q : List Value) (ks vs : List (List Value)) (i : ℕ) → length ks ≡ length vs → T (is_sorted key_cmp (zip ks vs)) → IsBinarySearchResult (λ y. key_cmp y q) ks (Err i) → find key_cmp q (zip ks vs) ≡ None
found-none q ks vs i e s h =
    let parts = h (searchable_from_sorted key_total (λ x. x) ks q (rising ks vs e s)) in
    found-nowhere q ks vs e (λ k d l. elim (cases_lt k i) [
      | inl low ↦ apart (get_or ks k d) q Less (parts.0 k d (omega arith) low) refl
      | inr high ↦ apart (get_or ks k d) q Greater (parts.1 k d high l) refl
    ])
