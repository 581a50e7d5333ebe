-- The mark of cells, by what it says of them.
use Rattle.std.proofs.Common.{◌≡◌, ◌⊎◌, inl, inr, zero, suc, List, [], ◌∷◌, refl, sym, subst, arith, true, false, IsTrue, None, Some, Option}
use Rattle.std.specs.Prelude.{Contains, ◌↔◌, ℤ, int_lt, ◌≤ℤ◌}
use Rattle.std.specs.Int.{int_max, int_min}
use Rattle.std.proofs.lemmas.Bool.{cond_both, false≢true}
use Rattle.std.proofs.lemmas.Int.{ints}
use Rattle.std.proofs.lemmas.List.Elements.{All-cons, All-nil}
use Rattle.pk_values.specs.declared.cells.Value.{Value}
use Rattle.pk_values.specs.declared.cells.Value.TheVariants.{Null, Bool, Num, Day, Text}
use Rattle.column_page.specs.declared.footers.Span.{Span}
use Rattle.column_page.specs.Footers.{mark_of, numbers, with_number, Bounds, IsSpanOf}

-- ---- the first element, or one behind it

contains_first : {X : Type 0} (x : X) (xs : List X) → Contains (x ∷ xs) x
contains_first x xs = (0, omega arith, refl)

contains_behind : {X : Type 0} (x y : X) (xs : List X) → Contains xs y → Contains (x ∷ xs) y
contains_behind x y xs h = let lt = h.1 in (suc h.0, omega arith, h.2)

contains_cases : {X : Type 0} (x y : X) (xs : List X) → Contains (x ∷ xs) y → (x ≡ y) ⊎ Contains xs y
contains_cases x y xs (zero, lt, e) = inl e
contains_cases x y xs (suc k, lt, e) = inr (k, omega arith, e)

-- ---- the least and the greatest

one_number : (z : ℤ) → Bounds (z ∷ []) (record { least = z; greatest = z })
one_number z = record {
  least_is_below = All-cons (λ x. z ≤ℤ x) z [] (grind (arith, ints)) (All-nil (λ x. z ≤ℤ x));
  greatest_is_above = All-cons (λ x. x ≤ℤ z) z [] (grind (arith, ints)) (All-nil (λ x. x ≤ℤ z));
  least_is_one = contains_first z [];
  greatest_is_one = contains_first z [];
}

min_below : (a b : ℤ) → int_min a b ≤ℤ a
min_below a b = grind (arith, ints)

min_below_other : (a b c : ℤ) → b ≤ℤ c → int_min a b ≤ℤ c
min_below_other a b c h = grind (arith, ints)

max_above : (a b : ℤ) → a ≤ℤ int_max a b
max_above a b = grind (arith, ints)

max_above_other : (a b c : ℤ) → c ≤ℤ b → c ≤ℤ int_max a b
max_above_other a b c h = grind (arith, ints)

more_numbers : (z : ℤ) (zs : List ℤ) (s : Span) → Bounds zs s → Bounds (z ∷ zs) (record { least = int_min z s.least; greatest = int_max z s.greatest })
more_numbers z zs s b = record {
  least_is_below = All-cons (λ x. int_min z s.least ≤ℤ x) z zs (min_below z s.least) (λ k d lt. min_below_other z s.least _ (b.least_is_below k d lt));
  greatest_is_above = All-cons (λ x. x ≤ℤ int_max z s.greatest) z zs (max_above z s.greatest) (λ k d lt. max_above_other z s.greatest _ (b.greatest_is_above k d lt));
  least_is_one = cond_both (int_lt s.least z) s.least z (Contains (z ∷ zs)) (λ e. contains_behind z s.least zs b.least_is_one) (λ e. contains_first z zs);
  greatest_is_one = cond_both (int_lt s.greatest z) z s.greatest (Contains (z ∷ zs)) (λ e. contains_first z zs) (λ e. contains_behind z s.greatest zs b.greatest_is_one);
}

with_more : (z : ℤ) (zs : List ℤ) (span : Option Span) → IsSpanOf zs span → IsSpanOf (z ∷ zs) (with_number (Some z) span)
with_more z zs None none = subst (λ (xs : List ℤ). Bounds (z ∷ xs) (record { least = z; greatest = z })) (sym none) (one_number z)
with_more z zs (Some s) b = more_numbers z zs s b

pub span_is : (cells : List Value) → IsSpanOf (numbers cells) (mark_of cells).span
span_is [] = refl
span_is (Null ∷ cells) = span_is cells
span_is (Bool false ∷ cells) = with_more _ (numbers cells) (mark_of cells).span (span_is cells)
span_is (Bool true ∷ cells) = with_more _ (numbers cells) (mark_of cells).span (span_is cells)
span_is (Num z ∷ cells) = with_more z (numbers cells) (mark_of cells).span (span_is cells)
span_is (Day z ∷ cells) = with_more z (numbers cells) (mark_of cells).span (span_is cells)
span_is (Text t ∷ cells) = span_is cells

-- ---- NULL

behind : (v : Value) (cells : List Value) → (v ≡ Null → ⊥) → (IsTrue (mark_of cells).nulls ↔ Contains cells Null) → IsTrue (mark_of cells).nulls ↔ Contains (v ∷ cells) Null
behind v cells other so = (
  λ t. contains_behind v Null cells (so.0 t),
  λ h. elim (contains_cases v Null cells h) [ inl e ↦ absurd (other e) | inr r ↦ so.1 r ],
)

pub nulls_are : (cells : List Value) → IsTrue (mark_of cells).nulls ↔ Contains cells Null
nulls_are [] = (λ t. absurd (false≢true t), λ h. let lt = h.1 in absurd (omega arith))
nulls_are (Null ∷ cells) = (λ t. contains_first Null cells, λ h. refl)
nulls_are (Bool b ∷ cells) = behind (Bool b) cells (λ e. cc) (nulls_are cells)
nulls_are (Num z ∷ cells) = behind (Num z) cells (λ e. cc) (nulls_are cells)
nulls_are (Day z ∷ cells) = behind (Day z) cells (λ e. cc) (nulls_are cells)
nulls_are (Text t ∷ cells) = behind (Text t) cells (λ e. cc) (nulls_are cells)
