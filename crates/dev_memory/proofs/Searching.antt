-- A number is looked up in a rising list.
use Rattle.std.proofs.Common.{◌≡◌, ℕ, ◌+◌, ◌≤◌, ◌<◌, Bool, true, false, List, Result, Ok, Err, is_ok, MatchResult, get_or, length, refl, sym, ◌∙◌, ap, inl, inr, arith}
use Rattle.std.proofs.lemmas.Bool.{cases_eq, cases_lt}
use Rattle.std.proofs.lemmas.Cmp.{nat_cmp_total, eq_by_cmp_equiv}
use Rattle.std.proofs.lemmas.List.{get_or_default}
use Rattle.std.proofs.lemmas.List.Kept.{AllPairs-from_increasing}
use Rattle.std.proofs.lemmas.List.Sorted.{searched}
use Rattle.std.proofs.lemmas.Map.Views.{list_any-from_Contains, Contains-from_any}
use Rattle.std.specs.List.Sorted.{IsStrictlyIncreasing, IsBinarySearchResult}
use Rattle.std.specs.Ordering.{nat_cmp}
use Rattle.dev_memory.specs.Disk.{is_in}
use Rattle.dev_memory.proofs.Files.{tied}

rises : (xs : List ℕ) → IsStrictlyIncreasing xs → (i j : ℕ) → i ≤ j → j < length xs → get_or xs i 0 ≤ get_or xs j 0
rises xs rising i j le lt = elim (cases_eq i j) [
  | inl same ↦ omega (arith, ap (λ (k : ℕ). get_or xs k 0) same)
  | inr other ↦ omega (arith, AllPairs-from_increasing xs rising i j 0 (omega (arith, other, le)) lt)
]

pub found : (xs : List ℕ) (x : ℕ) (r : Result ℕ ℕ) → IsStrictlyIncreasing xs → IsBinarySearchResult (λ y. nat_cmp y x) xs r → is_ok r ≡ is_in xs x
found xs x r rising search = go r (searched xs x r search (rises xs rising))
  where
    none : (i : ℕ) → ((k : ℕ) → k < i → get_or xs k 0 < x) → ((k : ℕ) → i ≤ k → k < length xs → x < get_or xs k 0) → (b : Bool) → is_in xs x ≡ b → false ≡ b
    none i before behind true is =
        let at = Contains-from_any tied x xs is in
        elim (cases_lt at.0 i) [
          | inl lt ↦ absurd (omega (arith, before at.0 lt, get_or_default xs at.0 x 0 at.1, at.2))
          | inr ge ↦ absurd (omega (arith, behind at.0 ge at.1, get_or_default xs at.0 x 0 at.1, at.2))
        ]
    none i before behind false is = refl

    go : (r : Result ℕ ℕ) → MatchResult r (λ i. (i < length xs) × (get_or xs i 0 ≡ x)) (λ i. (i ≤ length xs) × ((k : ℕ) → k < i → get_or xs k 0 < x) × ((k : ℕ) → i ≤ k → k < length xs → x < get_or xs k 0)) → is_ok r ≡ is_in xs x
    go (Ok i) m = sym (list_any-from_Contains (eq_by_cmp_equiv nat_cmp_total) x xs (i, m.0, get_or_default xs i x 0 m.0 ∙ m.1))
    go (Err i) m = none i m.1 m.2 (is_in xs x) refl
