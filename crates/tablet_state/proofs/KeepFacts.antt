-- Which numbers and segments stay when a floor is raised.
use Rattle.std.proofs.Common.{◌≡◌, ◌≢◌, ◌⊎◌, refl, ap, sym, subst, ◌∙◌, inl, inr, ℕ, zero, suc, ◌+◌, ◌<◌, ◌≤◌, List, [], ◌∷◌, ◌++◌, map, take, length, get_or, slice_get, Option, Some, Bool, true, false, ◌||◌, ◌&&◌, ◌==◌, cond, if◌then◌else◌, Result, Ok, Err, is_ok, MatchResult, nat_lt, arith}
use Rattle.std.specs.List.{AllByRecursion, filter}
use Rattle.std.specs.List.Sorted.{IsBinarySearchResult, IsNonDecreasing, IsStrictlyIncreasing}
use Rattle.std.specs.Ordering.{nat_cmp}
use Rattle.std.proofs.lemmas.Bool.{cases_eq, eq-eqb, eqb-true, ne_eqb, ltb-true, ltb-false}
use Rattle.std.proofs.lemmas.List.Folds.{list_any_at, list_any-append}
use Rattle.std.proofs.lemmas.List.Kept.{AllPairs-from_increasing}
use Rattle.std.proofs.lemmas.List.Sorted.{searched}
use Rattle.column_page.specs.declared.footers.Footer.{Footer}
use Rattle.rowsets.specs.Marks.{Rises}
use Rattle.tablet_state.specs.Floors.{is_listed}
use Rattle.tablet_state.specs.State.{SegmentView, footer_at, footers_of, segment_of}

-- ---- a number is looked up

none_among : (ns : List ℕ) (n : ℕ) → ((k : ℕ) → k < length ns → get_or ns k 0 ≡ n → ⊥) → is_listed ns n ≡ false
none_among [] n h = refl
none_among (m ∷ ns) n h = ap (λ (b : Bool). b || is_listed ns n) (ne_eqb m n (λ e. h 0 (omega arith) e)) ∙ none_among ns n (λ k lt e. h (suc k) (omega arith) e)

pub searched_list : (ns : List ℕ) (n : ℕ) (r : Result ℕ ℕ) → IsNonDecreasing ns → IsBinarySearchResult (λ y. nat_cmp y n) ns r → is_ok r ≡ is_listed ns n
searched_list ns n r rises search = go r (searched ns n r search (λ i j le lt. rises i j 0 le lt))
  where
    none : (i : ℕ) → ((k : ℕ) → k < i → get_or ns k 0 < n) → ((k : ℕ) → i ≤ k → k < length ns → n < get_or ns k 0) → (k : ℕ) → k < length ns → get_or ns k 0 ≡ n → (b : Bool) → nat_lt k i ≡ b → ⊥
    none i before behind k lt is true e = let p = before k (ltb-true k i e) in omega (arith, p, is)
    none i before behind k lt is false e = let p = behind k (ltb-false k i e) lt in omega (arith, p, is)

    go : (r : Result ℕ ℕ) → MatchResult r (λ i. (i < length ns) × (get_or ns i 0 ≡ n)) (λ i. (i ≤ length ns) × ((k : ℕ) → k < i → get_or ns k 0 < n) × ((k : ℕ) → i ≤ k → k < length ns → n < get_or ns k 0)) → is_ok r ≡ is_listed ns n
    go (Ok i) m = sym (list_any_at (λ y. y == n) ns i 0 m.0 (eq-eqb (get_or ns i 0) n m.1))
    go (Err i) m = sym (none_among ns n (λ k lt e. none i m.1 m.2 k lt e (nat_lt k i) refl))

-- ---- what passes a test

pub filter_same : {X : Type 0} (p q : X → Bool) (xs : List X) → ((x : X) → p x ≡ q x) → filter p xs ≡ filter q xs
filter_same {X = X} p q xs same = ap (λ (t : X → Bool). filter t xs) (λ i x. same x i)

pub filter_next : (p : ℕ → Bool) (ns : List ℕ) (i n : ℕ) → slice_get ns i ≡ Some n → filter p (take (i + 1) ns) ≡ filter p (take i ns) ++ filter p (n ∷ [])
filter_next p ns i n is = ap (λ (k : ℕ). filter p (take k ns)) (next i) ∙ go ns i is
  where
    next : (i : ℕ) → i + 1 ≡ suc i
    next i = omega arith

    go : (ns : List ℕ) (i : ℕ) → slice_get ns i ≡ Some n → filter p (take (suc i) ns) ≡ filter p (take i ns) ++ filter p (n ∷ [])
    go [] i is = absurd (cc is)
    go (m ∷ ns) zero is = let same : m ≡ n = cc in ap (λ (k : ℕ). filter p (k ∷ [])) same
    go (m ∷ ns) (suc i) is = by (p m) (go ns i is)
      where
        by : (b : Bool) → filter p (take (suc i) ns) ≡ filter p (take i ns) ++ filter p (n ∷ []) → cond b (m ∷ filter p (take (suc i) ns)) (filter p (take (suc i) ns)) ≡ cond b (m ∷ filter p (take i ns)) (filter p (take i ns)) ++ filter p (n ∷ [])
        by true h = ap (λ (xs : List ℕ). m ∷ xs) h
        by false h = h

pub passes : {X : Type 0} (p : X → Bool) (x : X) → p x ≡ true → filter p (x ∷ []) ≡ x ∷ []
passes p x is = ap (λ (b : Bool). cond b (x ∷ []) []) is

pub fails : {X : Type 0} (p : X → Bool) (x : X) → p x ≡ false → filter p (x ∷ []) ≡ []
fails p x is = ap (λ (b : Bool). cond b (x ∷ []) []) is

pub all_filter : {X : Type 0} (P : X → Type 0) (p : X → Bool) (xs : List X) → AllByRecursion P xs → AllByRecursion P (filter p xs)
all_filter P p [] h = tt
all_filter P p (x ∷ xs) h = go (p x) (all_filter P p xs h.1)
  where
    go : (b : Bool) → AllByRecursion P (filter p xs) → AllByRecursion P (cond b (x ∷ filter p xs) (filter p xs))
    go true rest = (h.0, rest)
    go false rest = rest

-- ---- numbers that rise

all_above : (m n : ℕ) (ns : List ℕ) → m ≤ n → AllByRecursion (λ k. n < k) ns → AllByRecursion (λ k. m < k) ns
all_above m n [] le h = tt
all_above m n (k ∷ ns) le h = let lt = h.0 in (omega arith, all_above m n ns le h.1)

rises_tail : (n : ℕ) (ns : List ℕ) → Rises (n ∷ ns) → Rises ns
rises_tail n [] h = tt
rises_tail n (m ∷ ns) h = h.1

rises_above : (n : ℕ) (ns : List ℕ) → Rises (n ∷ ns) → AllByRecursion (λ k. n < k) ns
rises_above n [] h = tt
rises_above n (m ∷ ns) h = let lt : n < m = h.0 in (lt, all_above n m ns (omega arith) (rises_above m ns h.1))

rises_cons : (n : ℕ) (ns : List ℕ) → AllByRecursion (λ k. n < k) ns → Rises ns → Rises (n ∷ ns)
rises_cons n [] above rise = tt
rises_cons n (m ∷ ns) above rise = (above.0, rise)

pub rises_filter : (p : ℕ → Bool) (ns : List ℕ) → Rises ns → Rises (filter p ns)
rises_filter p [] h = tt
rises_filter p (n ∷ ns) h = go (p n) (rises_filter p ns (rises_tail n ns h))
  where
    go : (b : Bool) → Rises (filter p ns) → Rises (cond b (n ∷ filter p ns) (filter p ns))
    go true rest = rises_cons n (filter p ns) (all_filter (λ k. n < k) p ns (rises_above n ns h)) rest
    go false rest = rest

pub rises_each : (ns : List ℕ) → Rises ns → IsStrictlyIncreasing ns
rises_each [] h k lt = absurd (omega arith)
rises_each (n ∷ []) h k lt = absurd (omega arith)
rises_each (n ∷ m ∷ ns) h zero lt = h.0
rises_each (n ∷ m ∷ ns) h (suc k) lt =
    let e : suc (k + 1) ≡ suc k + 1 = omega arith in
    subst (λ (j : ℕ). get_or (n ∷ m ∷ ns) (suc k) 0 < get_or (n ∷ m ∷ ns) j 0) e (rises_each (m ∷ ns) h.1 k (omega arith))

pub never_falls : (ns : List ℕ) → IsStrictlyIncreasing ns → IsNonDecreasing ns
never_falls ns rising i j d le lt = go (cases_eq i j)
  where
    go : (i ≡ j) ⊎ (i ≢ j) → get_or ns i d ≤ get_or ns j d
    go (inl same) = omega (arith, ap (λ (k : ℕ). get_or ns k d) same)
    go (inr other) = omega (arith, AllPairs-from_increasing ns rising i j d (omega (arith, other, le)) lt)

-- ---- which numbers are listed

and_none : (b : Bool) → (b && false) ≡ false
and_none true = refl
and_none false = refl

-- those of a list that pass a test
both_tests : (p : ℕ → Bool) (ns : List ℕ) (n : ℕ) → is_listed (filter p ns) n ≡ (is_listed ns n && p n)
both_tests p [] n = refl
both_tests p (m ∷ ns) n = go (p m) (m == n) refl refl (both_tests p ns n)
  where
    rest : List ℕ
    rest = filter p ns

    go : (b e : Bool) → p m ≡ b → (m == n) ≡ e → is_listed (filter p ns) n ≡ (is_listed ns n && p n) → is_listed (cond b (m ∷ filter p ns) (filter p ns)) n ≡ (((m == n) || is_listed ns n) && p n)
    go true true pm is h =
        let passes_ : p n ≡ true = ap p (sym (eqb-true m n is)) ∙ pm in
        ap (λ (b : Bool). b || is_listed (filter p ns) n) is ∙ sym (ap (λ (b : Bool). (b || is_listed ns n) && p n) is ∙ passes_)
    go true false pm is h = ap (λ (b : Bool). b || is_listed (filter p ns) n) is ∙ h ∙ sym (ap (λ (b : Bool). (b || is_listed ns n) && p n) is)
    go false true pm is h =
        let fails_ : p n ≡ false = ap p (sym (eqb-true m n is)) ∙ pm in
        h ∙ ap (λ (b : Bool). is_listed ns n && b) fails_ ∙ and_none (is_listed ns n) ∙ sym (and_none ((m == n) || is_listed ns n)) ∙ sym (ap (λ (b : Bool). ((m == n) || is_listed ns n) && b) fails_)
    go false false pm is h = h ∙ sym (ap (λ (b : Bool). (b || is_listed ns n) && p n) is)

-- where each number that passes is listed, these are all that pass
pub kept_tests : (p : ℕ → Bool) (ns : List ℕ) → ((n : ℕ) → p n ≡ true → is_listed ns n ≡ true) → (n : ℕ) → is_listed (filter p ns) n ≡ p n
kept_tests p ns there n = both_tests p ns n ∙ go (p n) refl
  where
    go : (b : Bool) → p n ≡ b → (is_listed ns n && b) ≡ b
    go true is = ap (λ (t : Bool). t && true) (there n is)
    go false is = and_none (is_listed ns n)

pub all_listed : (P : ℕ → Type 0) (ns : List ℕ) → AllByRecursion P ns → (n : ℕ) → is_listed ns n ≡ true → P n
all_listed P [] h n is = absurd (cc is)
all_listed P (m ∷ ns) h n is = go (m == n) refl is (all_listed P ns h.1 n)
  where
    go : (b : Bool) → (m == n) ≡ b → (b || is_listed ns n) ≡ true → (is_listed ns n ≡ true → P n) → P n
    go true e t rest = subst P (eqb-true m n e) h.0
    go false e t rest = rest t

or_first : (a b : Bool) → a ≡ true → (a || b) ≡ true
or_first a b is = ap (λ (t : Bool). t || b) is

or_second : (a b : Bool) → b ≡ true → (a || b) ≡ true
or_second true b is = refl
or_second false b is = is

-- each number of a list is listed
pub each_listed : (before ns : List ℕ) → AllByRecursion (λ n. is_listed (before ++ ns) n ≡ true) ns
each_listed before [] = tt
each_listed before (m ∷ ns) = (
  list_any-append (λ k. k == m) before (m ∷ ns) ∙ or_second (is_listed before m) (is_listed (m ∷ ns) m) (or_first (m == m) (is_listed ns m) (eq-eqb m m refl)),
  subst (λ (ms : List ℕ). AllByRecursion (λ n. is_listed ms n ≡ true) ns) (one_by_one before) (each_listed (before ++ m ∷ []) ns),
)
  where
    one_by_one : (ks : List ℕ) → (ks ++ m ∷ []) ++ ns ≡ ks ++ m ∷ ns
    one_by_one [] = refl
    one_by_one (k ∷ ks) = ap (λ (xs : List ℕ). k ∷ xs) (one_by_one ks)

pub listed_first : (xs ys : List ℕ) (n : ℕ) → is_listed xs n ≡ true → is_listed (xs ++ ys) n ≡ true
listed_first xs ys n is = list_any-append (λ k. k == n) xs ys ∙ or_first (is_listed xs n) (is_listed ys n) is

pub listed_either : (xs ys : List ℕ) (n : ℕ) → is_listed (xs ++ ys) n ≡ true → (is_listed xs n ≡ true) ⊎ (is_listed ys n ≡ true)
listed_either xs ys n is = go (is_listed xs n) refl (sym (list_any-append (λ k. k == n) xs ys) ∙ is)
  where
    go : (b : Bool) → is_listed xs n ≡ b → (b || is_listed ys n) ≡ true → (is_listed xs n ≡ true) ⊎ (is_listed ys n ≡ true)
    go true e h = inl e
    go false e h = inr h

-- ---- segments

pub numbers_filter : (p : ℕ → Bool) (gs : List SegmentView) → map (λ (g : SegmentView). g.number) (filter (λ (g : SegmentView). p g.number) gs) ≡ filter p (map (λ (g : SegmentView). g.number) gs)
numbers_filter p [] = refl
numbers_filter p (g ∷ gs) = go (p g.number) (numbers_filter p gs)
  where
    go : (b : Bool) → map (λ (g : SegmentView). g.number) (filter (λ (g : SegmentView). p g.number) gs) ≡ filter p (map (λ (g : SegmentView). g.number) gs)
        → map (λ (g : SegmentView). g.number) (cond b (g ∷ filter (λ (g : SegmentView). p g.number) gs) (filter (λ (g : SegmentView). p g.number) gs)) ≡ cond b (g.number ∷ filter p (map (λ (g : SegmentView). g.number) gs)) (filter p (map (λ (g : SegmentView). g.number) gs))
    go true rest = ap (λ (ns : List ℕ). g.number ∷ ns) rest
    go false rest = rest

pub footer_number : (gs : List SegmentView) (n : ℕ) (f : Footer) → footer_at (footers_of gs) n ≡ Some f → is_listed (map (λ (g : SegmentView). g.number) gs) n ≡ true
footer_number [] n f is = absurd (cc is)
footer_number (g ∷ gs) n f is = go (g.number == n) is (footer_number gs n f)
  where
    go : (b : Bool) → (if b then Some g.footer else footer_at (footers_of gs) n) ≡ Some f → (footer_at (footers_of gs) n ≡ Some f → is_listed (map (λ (g : SegmentView). g.number) gs) n ≡ true) → (b || is_listed (map (λ (g : SegmentView). g.number) gs) n) ≡ true
    go true e more = refl
    go false e more = more e

other_number : (p : ℕ → Bool) (m n : ℕ) → p n ≡ true → p m ≡ false → (m == n) ≡ false
other_number p m n pn pm = go (m == n) refl
  where
    go : (b : Bool) → (m == n) ≡ b → b ≡ false
    go true e = absurd (let same = ap p (eqb-true m n e) in cc)
    go false e = refl

pub footer_filtered : (p : ℕ → Bool) (gs : List SegmentView) (n : ℕ) → p n ≡ true → footer_at (footers_of (filter (λ (g : SegmentView). p g.number) gs)) n ≡ footer_at (footers_of gs) n
footer_filtered p [] n pn = refl
footer_filtered p (g ∷ gs) n pn = go (p g.number) refl (footer_filtered p gs n pn)
  where
    go : (b : Bool) → p g.number ≡ b → footer_at (footers_of (filter (λ (g : SegmentView). p g.number) gs)) n ≡ footer_at (footers_of gs) n
        → footer_at (footers_of (cond b (g ∷ filter (λ (g : SegmentView). p g.number) gs) (filter (λ (g : SegmentView). p g.number) gs))) n ≡ (if g.number == n then Some g.footer else footer_at (footers_of gs) n)
    go true e h = ap (λ (o : Option Footer). if g.number == n then Some g.footer else o) h
    go false e h = h ∙ sym (ap (λ (t : Bool). if t then Some g.footer else footer_at (footers_of gs) n) (other_number p g.number n pn e))

pub segment_filtered : (p : ℕ → Bool) (gs : List SegmentView) (n : ℕ) → p n ≡ true → segment_of (filter (λ (g : SegmentView). p g.number) gs) n ≡ segment_of gs n
segment_filtered p [] n pn = refl
segment_filtered p (g ∷ gs) n pn = go (p g.number) refl (segment_filtered p gs n pn)
  where
    go : (b : Bool) → p g.number ≡ b → segment_of (filter (λ (g : SegmentView). p g.number) gs) n ≡ segment_of gs n
        → segment_of (cond b (g ∷ filter (λ (g : SegmentView). p g.number) gs) (filter (λ (g : SegmentView). p g.number) gs)) n ≡ (if g.number == n then Some g else segment_of gs n)
    go true e h = ap (λ (o : Option SegmentView). if g.number == n then Some g else o) h
    go false e h = h ∙ sym (ap (λ (t : Bool). if t then Some g else segment_of gs n) (other_number p g.number n pn e))
