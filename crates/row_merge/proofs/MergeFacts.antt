-- The first row of a merge.
use Rattle.std.proofs.Common.{◌≡◌, refl, ap, sym, subst, ◌∙◌, ◌⊎◌, inl, inr, ℕ, zero, suc, ◌<◌, ◌≤◌, List, [], ◌∷◌, slice_get, slice_set, Option, Some, None, Bool, true, false, cond, nat_lt, arith}
use Rattle.std.proofs.lemmas.Bool.{ltb-true, ltb-false}
use Rattle.pk_values.specs.Schemas.{Layout}
use Rattle.pk_values.specs.declared.cells.Value.{Value}
use Rattle.row_merge.specs.Brackets.{IsLeading}
use Rattle.row_merge.specs.Merge.{below, comes_before, head_at, head_of, merge, merge_all, merge_into}

abbrev Row : Type 0
Row = List Value

clash : (b : Bool) → b ≡ true → b ≡ false → ⊥
clash b e f = cc (sym e ∙ f)

some_one : {X : Type 0} (x y : X) → Some x ≡ Some y → x ≡ y
some_one x y e = cc

none_some : {X : Type 0} (x : X) → None ≡ Some x → ⊥
none_some x e = cc

-- a merge begins with the first row of one of both
head_merge : (s : Layout) (xs ys : List Row) (r : Row) → head_of (merge s xs ys) ≡ Some r → (head_of xs ≡ Some r) ⊎ (head_of ys ≡ Some r)
head_merge s [] ys r e = inr e
head_merge s (x ∷ xs) [] r e = inl e
head_merge s (x ∷ xs) (y ∷ ys) r e = go (below s y x) e
  where
    go : (b : Bool) → head_of (cond b (y ∷ merge_into s x (merge s xs) ys) (x ∷ merge s xs (y ∷ ys))) ≡ Some r → (Some x ≡ Some r) ⊎ (Some y ≡ Some r)
    go true e = inr e
    go false e = inl e

head_all : (s : Layout) (lists : List (List Row)) (r : Row) → head_of (merge_all s lists) ≡ Some r → (i : ℕ) × (head_at lists i ≡ Some r)
head_all s [] r e = absurd (none_some r e)
head_all s (xs ∷ lists) r e =
    elim (head_merge s xs (merge_all s lists) r e) [
      | inl h ↦ (0, h)
      | inr h ↦ let w = head_all s lists r h in (suc w.0, w.1)
    ]

-- a row that no list's first row is below stands first
put_first : (s : Layout) (r : Row) (q : List Row) (m : List Row) → ((y : Row) → head_of m ≡ Some y → below s y r ≡ false) → merge s (r ∷ q) m ≡ r ∷ merge s q m
put_first s r q [] h = refl
put_first s r q (y ∷ ys) h = ap (λ b. cond b (y ∷ merge_into s r (merge s q) ys) (r ∷ merge s q (y ∷ ys))) (h y refl)

-- a row that is below a list's first one goes before it
put_before : (s : Layout) (r : Row) (xs m : List Row) → comes_before s (Some r) (head_of xs) ≡ true → merge s xs (r ∷ m) ≡ r ∷ merge s xs m
put_before s r [] m h = refl
put_before s r (x ∷ xs) m h = ap (λ b. cond b (r ∷ merge_into s x (merge s xs) m) (x ∷ merge s xs (r ∷ m))) h

head_is : (lists : List (List Row)) (w : ℕ) (xs : List Row) → slice_get lists w ≡ Some xs → head_at lists w ≡ head_of xs
head_is [] w xs e = absurd (none_some xs e)
head_is (ys ∷ lists) zero xs e = ap head_of (some_one ys xs e)
head_is (ys ∷ lists) (suc w) xs e = head_is lists w xs e

-- the merge begins with the first row of the list that leads, and the rest of it is merged behind
pub merge_first : (s : Layout) (lists : List (List Row)) (w : ℕ) (r : Row) (q : List Row) → slice_get lists w ≡ Some (r ∷ q) → IsLeading s (head_at lists) w
    → merge_all s lists ≡ r ∷ merge_all s (slice_set lists w q)
merge_first s [] w r q e lead = absurd (none_some (r ∷ q) e)
merge_first s (xs ∷ lists) zero r q e lead =
    ap (λ ys. merge s ys (merge_all s lists)) is ∙ put_first s r q (merge_all s lists) later
  where
    is : xs ≡ r ∷ q
    is = some_one xs (r ∷ q) e

    later : (y : Row) → head_of (merge_all s lists) ≡ Some y → below s y r ≡ false
    later y h =
        let at = head_all s lists y h in
        ap (λ o. comes_before s o (Some r)) (sym at.1) ∙ ap (λ o. comes_before s (head_at lists at.0) o) (sym (ap head_of is)) ∙ lead.behind (suc at.0) (omega arith)
merge_first s (xs ∷ lists) (suc w) r q e lead =
    ap (merge s xs) (merge_first s lists w r q e (record { before = λ i lt. lead.before (suc i) (omega arith); behind = λ i le. lead.behind (suc i) (omega arith) })) ∙ put_before s r xs (merge_all s (slice_set lists w q)) (ap (λ o. comes_before s o (head_of xs)) (sym (head_is lists w (r ∷ q) e)) ∙ lead.before 0 (omega arith))

-- where the list that leads has no row none has
pub merge_none : (s : Layout) (lists : List (List Row)) (w : ℕ) → IsLeading s (head_at lists) w → head_at lists w ≡ None → merge_all s lists ≡ []
merge_none s lists w lead none = all_none lists at
  where
    no_row : (o : Option Row) → comes_before s o None ≡ false → o ≡ None
    no_row None e = refl
    no_row (Some r) e = cc

    at : (i : ℕ) → head_at lists i ≡ None
    at i = elim (nat_lt i w) as (λ b. nat_lt i w ≡ b → head_at lists i ≡ None) [
      | true ↦ λ e. absurd (clash (comes_before s (head_at lists w) (head_at lists i)) (lead.before i (ltb-true i w e)) (ap (λ o. comes_before s o (head_at lists i)) none))
      | false ↦ λ e. no_row (head_at lists i) (ap (comes_before s (head_at lists i)) (sym none) ∙ lead.behind i (ltb-false i w e))
    ] refl

    nothing : (xs : List Row) → head_of xs ≡ None → xs ≡ []
    nothing [] e = refl
    nothing (x ∷ xs) e = absurd (none_some x (sym e))

    all_none : (lists : List (List Row)) → ((i : ℕ) → head_at lists i ≡ None) → merge_all s lists ≡ []
    all_none [] h = refl
    all_none (xs ∷ lists) h = ap (λ ys. merge s ys (merge_all s lists)) (nothing xs (h 0)) ∙ all_none lists (λ i. h (suc i))
