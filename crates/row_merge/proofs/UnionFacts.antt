-- The merge of rising lists with no key in common rises and has their rows.
use Rattle.std.proofs.Common.{◌≡◌, ◌↔◌, refl, ap, sym, subst, ◌∙◌, ◌⊎◌, inl, inr, ℕ, zero, suc, ◌+◌, ◌<◌, ◌≤◌, List, [], ◌∷◌, ◌++◌, length, slice_get, Option, Some, None, Bool, true, false, cond, IsTrue, arith}
use Rattle.std.specs.List.{AllByRecursion}
use Rattle.std.specs.Ordering.{is_lt, is_gt}
use Rattle.std.specs.declared.cmp.Ordering.{Ordering}
use Rattle.std.specs.declared.cmp.Ordering.TheVariants.{Less, Equal, Greater}
use Rattle.pk_values.specs.Order.{key_cmp}
use Rattle.pk_values.specs.OrderFacts.{key_exact, key_total}
use Rattle.pk_values.specs.Schemas.{Layout, key_of}
use Rattle.pk_values.specs.declared.cells.Value.{Value}
use Rattle.pk_model.specs.Tables.{Rows}
use Rattle.rowsets.specs.Merging.{IsListed}
use Rattle.rowsets.specs.Scans.{AreRowsOf, IsScan, RowsRise}
use Rattle.rowsets.proofs.ScanFacts.{scan_gives_all}
use Rattle.row_merge.specs.Merge.{below, merge, merge_all, merge_into}
use Rattle.row_merge.specs.Unions.{joined, MergeGivesMap}
use Rattle.row_merge.proofs.OrderFacts.{below-gt}

abbrev Row : Type 0
Row = List Value

none_some : {X : Type 0} (x : X) → None ≡ Some x → ⊥
none_some x e = cc

some_one : {X : Type 0} (x y : X) → Some x ≡ Some y → x ≡ y
some_one x y e = cc

-- no key is in both
abbrev Apart : Layout → List Row → List Row → Type 0
Apart s xs ys = (a b : Row) → IsListed xs a → IsListed ys b → key_of s a ≡ key_of s b → ⊥

-- ---- the rows of a merge

abbrev Either : List Row → List Row → Row → Type 0
Either xs ys row = IsListed xs row ⊎ IsListed ys row

one_behind : (x y : Row) (xs ys : List Row) (row : Row) → Either (x ∷ xs) ys row → Either (x ∷ xs) (y ∷ ys) row
one_behind x y xs ys row (inl h) = inl h
one_behind x y xs ys row (inr h) = inr (suc h.0, h.1)

one_before : (x : Row) (xs ys : List Row) (row : Row) → Either xs ys row → Either (x ∷ xs) ys row
one_before x xs ys row (inl h) = inl (suc h.0, h.1)
one_before x xs ys row (inr h) = inr h

into_from : (s : Layout) (x : Row) (xs ys : List Row) (row : Row) → ((zs : List Row) → IsListed (merge s xs zs) row → Either xs zs row)
    → IsListed (merge_into s x (merge s xs) ys) row → Either (x ∷ xs) ys row
into_from s x xs [] row more (zero, e) = inl (0, e)
into_from s x xs [] row more (suc i, e) = one_before x xs [] row (more [] (i, e))
into_from s x xs (y ∷ ys) row more h = go (below s y x) (into_from s x xs ys row more) h
  where
    go : (b : Bool) → (IsListed (merge_into s x (merge s xs) ys) row → Either (x ∷ xs) ys row)
        → IsListed (cond b (y ∷ merge_into s x (merge s xs) ys) (x ∷ merge s xs (y ∷ ys))) row → Either (x ∷ xs) (y ∷ ys) row
    go true rest (zero, e) = inr (0, e)
    go true rest (suc i, e) = one_behind x y xs ys row (rest (i, e))
    go false rest (zero, e) = inl (0, e)
    go false rest (suc i, e) = one_before x xs (y ∷ ys) row (more (y ∷ ys) (i, e))

from_merge : (s : Layout) (xs ys : List Row) (row : Row) → IsListed (merge s xs ys) row → IsListed xs row ⊎ IsListed ys row
from_merge s [] ys row h = inr h
from_merge s (x ∷ xs) ys row h = into_from s x xs ys row (λ zs. from_merge s xs zs row) h

into_to : (s : Layout) (x : Row) (xs ys : List Row) (row : Row) → ((zs : List Row) → Either xs zs row → IsListed (merge s xs zs) row)
    → Either (x ∷ xs) ys row → IsListed (merge_into s x (merge s xs) ys) row
into_to s x xs [] row more (inl (zero, e)) = (0, e)
into_to s x xs [] row more (inl (suc i, e)) = let w = more [] (inl (i, e)) in (suc w.0, w.1)
into_to s x xs [] row more (inr (i, e)) = absurd (none_some row e)
into_to s x xs (y ∷ ys) row more h = go (below s y x) (into_to s x xs ys row more) h
  where
    go : (b : Bool) → (Either (x ∷ xs) ys row → IsListed (merge_into s x (merge s xs) ys) row)
        → Either (x ∷ xs) (y ∷ ys) row → IsListed (cond b (y ∷ merge_into s x (merge s xs) ys) (x ∷ merge s xs (y ∷ ys))) row
    go true rest (inl g) = let w = rest (inl g) in (suc w.0, w.1)
    go true rest (inr (zero, e)) = (0, e)
    go true rest (inr (suc i, e)) = let w = rest (inr (i, e)) in (suc w.0, w.1)
    go false rest (inl (zero, e)) = (0, e)
    go false rest (inl (suc i, e)) = let w = more (y ∷ ys) (inl (i, e)) in (suc w.0, w.1)
    go false rest (inr g) = let w = more (y ∷ ys) (inr g) in (suc w.0, w.1)

to_merge : (s : Layout) (xs ys : List Row) (row : Row) → IsListed xs row ⊎ IsListed ys row → IsListed (merge s xs ys) row
to_merge s [] ys row (inl (i, e)) = absurd (none_some row e)
to_merge s [] ys row (inr h) = h
to_merge s (x ∷ xs) ys row h = into_to s x xs ys row (λ zs. to_merge s xs zs row) h

append_from : (xs ys : List Row) (row : Row) → IsListed (xs ++ ys) row → IsListed xs row ⊎ IsListed ys row
append_from [] ys row h = inr h
append_from (x ∷ xs) ys row (zero, e) = inl (0, e)
append_from (x ∷ xs) ys row (suc i, e) = elim (append_from xs ys row (i, e)) [ inl h ↦ inl (suc h.0, h.1) | inr h ↦ inr h ]

append_left : (xs ys : List Row) (i : ℕ) (row : Row) → slice_get xs i ≡ Some row → slice_get (xs ++ ys) i ≡ Some row
append_left [] ys i row e = absurd (none_some row e)
append_left (x ∷ xs) ys zero row e = e
append_left (x ∷ xs) ys (suc i) row e = append_left xs ys i row e

append_right : (xs ys : List Row) (i : ℕ) (row : Row) → slice_get ys i ≡ Some row → slice_get (xs ++ ys) (length xs + i) ≡ Some row
append_right [] ys i row e = let at : 0 + i ≡ i = omega arith in ap (slice_get ys) at ∙ e
append_right (x ∷ xs) ys i row e = let at : suc (length xs) + i ≡ suc (length xs + i) = omega arith in ap (slice_get (x ∷ xs ++ ys)) at ∙ append_right xs ys i row e

in_list : (xs : List Row) (i : ℕ) (row : Row) → slice_get xs i ≡ Some row → i < length xs
in_list [] i row e = absurd (none_some row e)
in_list (x ∷ xs) zero row e = omega arith
in_list (x ∷ xs) (suc i) row e = let lt = in_list xs i row e in omega arith

append_to : (xs ys : List Row) (row : Row) → IsListed xs row ⊎ IsListed ys row → IsListed (xs ++ ys) row
append_to xs ys row (inl h) = (h.0, append_left xs ys h.0 row h.1)
append_to xs ys row (inr h) = (length xs + h.0, append_right xs ys h.0 row h.1)

all_from : (s : Layout) (lists : List (List Row)) (row : Row) → IsListed (merge_all s lists) row → IsListed (joined lists) row
all_from s [] row h = h
all_from s (xs ∷ lists) row h = append_to xs (joined lists) row (elim (from_merge s xs (merge_all s lists) row h) [ inl g ↦ inl g | inr g ↦ inr (all_from s lists row g) ])

all_to : (s : Layout) (lists : List (List Row)) (row : Row) → IsListed (joined lists) row → IsListed (merge_all s lists) row
all_to s [] row h = h
all_to s (xs ∷ lists) row h = to_merge s xs (merge_all s lists) row (elim (append_from xs (joined lists) row h) [ inl g ↦ inl g | inr g ↦ inr (all_to s lists row g) ])

-- ---- their order

-- of two rows with different keys that aren't in one order the other one is theirs
turn : (s : Layout) (x y : Row) → below s y x ≡ false → (key_of s x ≡ key_of s y → ⊥) → IsTrue (below s x y)
turn s x y e apart = go (key_cmp (key_of s x) (key_of s y)) refl
  where
    go : (o : Ordering) → key_cmp (key_of s x) (key_of s y) ≡ o → IsTrue (is_lt o)
    go Less f = refl
    go Equal f = absurd (apart (key_exact (key_of s x) (key_of s y) f))
    go Greater f = absurd (clash true refl (ap is_gt (sym f) ∙ sym (below-gt s y x) ∙ e))
      where
        clash : (b : Bool) → b ≡ true → b ≡ false → ⊥
        clash b e f = cc (sym e ∙ f)

tail_rises : (s : Layout) (x : Row) (xs : List Row) → RowsRise s (x ∷ xs) → RowsRise s xs
tail_rises s x [] h = tt
tail_rises s x (y ∷ xs) h = h.1

is_true : (b : Bool) → b ≡ true → IsTrue b
is_true true e = refl
is_true false e = cc

-- behind a row that is below the first of both
module _ (s : Layout) (x : Row) (xs : List Row) (rise : RowsRise s (x ∷ xs))
    (more : (z : Row) (ys : List Row) → RowsRise s (z ∷ xs) → RowsRise s (z ∷ ys) → Apart s xs ys → RowsRise s (z ∷ merge s xs ys)) where
  into_rises : (z : Row) (ys : List Row) → RowsRise s (z ∷ x ∷ xs) → RowsRise s (z ∷ ys) → Apart s (x ∷ xs) ys → RowsRise s (z ∷ merge_into s x (merge s xs) ys)
  into_rises z [] up down apart = (up.0, more x [] rise tt (λ a b h g e. none_some b g.1))
  into_rises z (y ∷ ys) up down apart = go (below s y x) refl (into_rises y ys)
    where
      go : (b : Bool) → below s y x ≡ b → (RowsRise s (y ∷ x ∷ xs) → RowsRise s (y ∷ ys) → Apart s (x ∷ xs) ys → RowsRise s (y ∷ merge_into s x (merge s xs) ys))
          → RowsRise s (z ∷ cond b (y ∷ merge_into s x (merge s xs) ys) (x ∷ merge s xs (y ∷ ys)))
      go true e rest = (down.0, rest (is_true (below s y x) e, rise) down.1 (λ a b h g k. apart a b h (suc g.0, g.1) k))
      go false e rest = (up.0, more x (y ∷ ys) rise (turn s x y e (apart x y (0, refl) (0, refl)), down.1) (λ a b h g k. apart a b (suc h.0, h.1) g k))

merge_rises_behind : (s : Layout) (xs : List Row) (z : Row) (ys : List Row) → RowsRise s (z ∷ xs) → RowsRise s (z ∷ ys) → Apart s xs ys → RowsRise s (z ∷ merge s xs ys)
merge_rises_behind s [] z ys up down apart = down
merge_rises_behind s (x ∷ xs) z ys up down apart = into_rises s x xs up.1 (merge_rises_behind s xs) z ys up down apart

merge_rises : (s : Layout) (xs ys : List Row) → RowsRise s xs → RowsRise s ys → Apart s xs ys → RowsRise s (merge s xs ys)
merge_rises s [] ys up down apart = down
merge_rises s (x ∷ xs) [] up down apart = merge_rises_behind s xs x [] up tt (λ a b h g e. none_some b g.1)
merge_rises s (x ∷ xs) (y ∷ ys) up down apart = go (below s y x) refl
  where
    go : (b : Bool) → below s y x ≡ b → RowsRise s (cond b (y ∷ merge_into s x (merge s xs) ys) (x ∷ merge s xs (y ∷ ys)))
    go true e = merge_rises_behind s (x ∷ xs) y ys (is_true (below s y x) e, up) down (λ a b h g k. apart a b h (suc g.0, g.1) k)
    go false e = merge_rises_behind s xs x (y ∷ ys) up (turn s x y e (apart x y (0, refl) (0, refl)), down) (λ a b h g k. apart a b (suc h.0, h.1) g k)

-- no key stands in two places
abbrev Once : Layout → List Row → Type 0
Once s all = (i j : ℕ) (a b : Row) → slice_get all i ≡ Some a → slice_get all j ≡ Some b → key_of s a ≡ key_of s b → i ≡ j

all_rise : (s : Layout) (lists : List (List Row)) → AllByRecursion (RowsRise s) lists → Once s (joined lists) → RowsRise s (merge_all s lists)
all_rise s [] rise once = tt
all_rise s (xs ∷ lists) rise once = merge_rises s xs (merge_all s lists) rise.0 (all_rise s lists rise.1 later) apart
  where
    later : Once s (joined lists)
    later i j a b e f k =
        let same = once (length xs + i) (length xs + j) a b (append_right xs (joined lists) i a e) (append_right xs (joined lists) j b f) k in
        omega arith

    apart : Apart s xs (merge_all s lists)
    apart a b h g k =
        let w = all_from s lists b g in
        let same = once h.0 (length xs + w.0) a b (append_left xs (joined lists) h.0 a h.1) (append_right xs (joined lists) w.0 b w.1) k in
        let lt = in_list xs h.0 a h.1 in
        omega arith

pub merge_gives_map : MergeGivesMap
merge_gives_map s lists m rise are = scan_gives_all s (joined lists) (merge_all s lists) m are (record {
  rise = all_rise s lists rise are.once;
  below = λ a b h g. absurd (none_some b g.1);
  together = λ row. ((λ h. inl (all_to s lists row h)), λ h. elim h [ inl g ↦ all_from s lists row g | inr g ↦ absurd (none_some row g.1) ]);
})
