-- Two groups of new files with numbers one after the other.
use Rattle.std.proofs.Common.{◌≡◌, ◌⊎◌, inl, inr, refl, ap, sym, subst, ◌∙◌, ℕ, zero, suc, ◌+◌, ◌<◌, ◌≤◌, List, [], ◌∷◌, ◌++◌, length, map, arith, Some, Bool as Truth, true, false, ◌||◌, ◌==◌, cond}
use Rattle.std.specs.List.{AllByRecursion}
use Rattle.std.proofs.lemmas.Bool.{eqb-false, ne_eqb}
use Rattle.std.proofs.lemmas.List.{map-append}
use Rattle.pk_values.specs.Schemas.{Layout}
use Rattle.pk_values.specs.declared.cells.Value.{Value}
use Rattle.rowsets.specs.Live.{Apart, Files, names}
use Rattle.rowsets.specs.Ending.{Moved}
use Rattle.rowsets.specs.Merging.{IsListed, all_live, all_rows, moved_in, moved_to, numbered, with_files, written}
use Rattle.rowsets.proofs.WrittenFacts.{lower_files_stay, numbered_are_new, numbered_are_written}
use Rattle.partial_loads.specs.Publications.{HaveRows, fresh}
use borrow.Author.Tests.{eqb-true}

abbrev Group : Type 0
Group = List (List (List Value))

pub numbered-append : (n : ℕ) (a b : Group) → numbered n (a ++ b) ≡ numbered n a ++ numbered (n + length a) b
numbered-append n [] b = let e : n ≡ n + 0 = omega arith in ap (λ m. numbered m b) e
numbered-append n (f ∷ a) b =
    let e : n + 1 + length a ≡ n + suc (length a) = omega arith in
    ap (λ ns. n ∷ ns) (numbered-append (n + 1) a b ∙ ap (λ m. numbered (n + 1) a ++ numbered m b) e)

pub parts-append : (n : ℕ) (a b : Group) → map all_live (numbered n (a ++ b)) ≡ map all_live (numbered n a) ++ map all_live (numbered (n + length a) b)
parts-append n a b = ap (map all_live) (numbered-append n a b) ∙ map-append all_live (numbered n a) (numbered (n + length a) b)

front : (n m : ℕ) (a b : Group) (rows : Files) → m < n + length a → with_files n (a ++ b) rows m ≡ with_files n a rows m
front n m [] b rows l = lower_files_stay n m b rows (omega arith)
front n m (f ∷ a) b rows l = ap (cond (m == n) f) (front (n + 1) m a b rows (omega arith))

back : (n m : ℕ) (a b : Group) (rows : Files) → n + length a ≤ m → with_files n (a ++ b) rows m ≡ with_files (n + length a) b rows m
back n m [] b rows l = let e : n ≡ n + 0 = omega arith in ap (λ k. with_files k b rows m) e
back n m (f ∷ a) b rows l =
    let other : (m == n) ≡ false = ne_eqb m n (λ same. absurd (past same)) in
    let e : n + 1 + length a ≡ n + suc (length a) = omega arith in
    ap (λ t. cond t f (with_files (n + 1) (a ++ b) rows m)) other ∙ back (n + 1) m a b rows (omega arith) ∙ ap (λ k. with_files k b rows m) e
  where
    past : m ≡ n → ⊥
    past same = omega (arith, l)

-- these are numbers from n on, and as many as files
within : (n : ℕ) (a : Group) → AllByRecursion (λ m. (n ≤ m) × (m < n + length a)) (numbered n a)
within n [] = tt
within n (f ∷ a) = ((omega arith, omega arith), widen (numbered (n + 1) a) (within (n + 1) a))
  where
    widen : (ns : List ℕ) → AllByRecursion (λ m. (n + 1 ≤ m) × (m < n + 1 + length a)) ns → AllByRecursion (λ m. (n ≤ m) × (m < n + length (f ∷ a))) ns
    widen [] h = tt
    widen (m ∷ ns) h = let low = h.0.0 in let high = h.0.1 in ((omega arith, omega arith), widen ns h.1)

each : (P Q : ℕ → Type 0) → ((m : ℕ) → P m → Q m) → (ns : List ℕ) → AllByRecursion P ns → AllByRecursion Q ns
each P Q f [] h = tt
each P Q f (n ∷ ns) h = (f n h.0, each P Q f ns h.1)

written-same : (rows others : Files) (ns : List ℕ) → AllByRecursion (λ m. rows m ≡ others m) ns → written rows ns ≡ written others ns
written-same rows others [] h = refl
written-same rows others (n ∷ ns) h = ap (λ xs. xs ++ written rows ns) h.0 ∙ ap (λ ys. others n ++ ys) (written-same rows others ns h.1)

moved-same : (s : Layout) (rows others : Files) (ns : List ℕ) → AllByRecursion (λ m. rows m ≡ others m) ns → moved_to s rows ns ≡ moved_to s others ns
moved-same s rows others [] h = refl
moved-same s rows others (n ∷ ns) h = ap (λ xs. moved_in s n 0 xs ++ moved_to s rows ns) h.0 ∙ ap (λ ys. moved_in s n 0 (others n) ++ ys) (moved-same s rows others ns h.1)

module _ (first : ℕ) (a b : Group) where
  in_front : AllByRecursion (λ m. fresh first (a ++ b) m ≡ fresh first a m) (numbered first a)
  in_front = each _ _ (λ m h. front first m a b (λ n. []) h.1) (numbered first a) (within first a)

  in_back : AllByRecursion (λ m. fresh first (a ++ b) m ≡ fresh (first + length a) b m) (numbered (first + length a) b)
  in_back = each _ _ (λ m h. back first m a b (λ n. []) h.0) (numbered (first + length a) b) (within (first + length a) b)

  pub front-written : written (fresh first (a ++ b)) (numbered first a) ≡ all_rows a
  front-written = written-same (fresh first (a ++ b)) (fresh first a) (numbered first a) in_front ∙ numbered_are_written first a (λ n. [])

  pub back-written : written (fresh first (a ++ b)) (numbered (first + length a) b) ≡ all_rows b
  back-written =
      written-same (fresh first (a ++ b)) (fresh (first + length a) b) (numbered (first + length a) b) in_back
      ∙ numbered_are_written (first + length a) b (λ n. [])

  pub front-moved : (s : Layout) → moved_to s (fresh first (a ++ b)) (numbered first a) ≡ moved_to s (fresh first a) (numbered first a)
  front-moved s = moved-same s (fresh first (a ++ b)) (fresh first a) (numbered first a) in_front

  pub back-moved : (s : Layout) → moved_to s (fresh first (a ++ b)) (numbered (first + length a) b) ≡ moved_to s (fresh (first + length a) b) (numbered (first + length a) b)
  back-moved s = moved-same s (fresh first (a ++ b)) (fresh (first + length a) b) (numbered (first + length a) b) in_back

  below : (m : ℕ) (ns : List ℕ) → AllByRecursion (λ m. (first ≤ m) × (m < first + length a)) ns → names (map all_live ns) m ≡ true → m < first + length a
  below m [] h e = cc
  below m (n ∷ ns) h e = go (n == m) refl e (below m ns h.1)
    where
      go : (t : Truth) → (n == m) ≡ t → (t || names (map all_live ns) m) ≡ true → (names (map all_live ns) m ≡ true → m < first + length a) → m < first + length a
      go true same e more = subst (λ k. k < first + length a) (eqb-true n m same) h.0.1
      go false same e more = more e

  pub groups-apart : Apart (map all_live (numbered first a)) (map all_live (numbered (first + length a) b))
  groups-apart = (numbered_are_new (first + length a) b (map all_live (numbered first a)) (λ m e. below m (numbered first a) (within first a) e)).0

-- files that have rows have a first one, unless there is no file
pub first-row : (a : Group) → HaveRows a → (a ≡ []) ⊎ ((row : List Value) × IsListed (all_rows a) row)
first-row [] h = inl refl
first-row ([] ∷ a) h = let none : 1 ≤ 0 = h.0 in absurd (omega arith)
first-row ((row ∷ rows) ∷ a) h = inr (row, (0, refl))
