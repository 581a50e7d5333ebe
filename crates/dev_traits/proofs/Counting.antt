-- How counts that stop at a u64's end add up.
use Rattle.std.proofs.Common.{◌≡◌, ℕ, ◌+◌, ◌-◌, ◌^◌, ◌≤◌, min, List, [], ◌∷◌, ◌++◌, sum, arith, refl}
use Rattle.std.proofs.lemmas.List.Sums.{sum_by-append, sum_by-cons}
use Rattle.dev_traits.specs.Causes.{Counts, RoseBy, sum_of_counts}

-- A count from call to call.

pub counts_none : (count : ℕ) → Counts 0 count count
counts_none count = omega arith

pub counts_then : (more further before between now : ℕ) → Counts more before between → Counts further between now → Counts (more + further) before now
counts_then more further before between now first second = omega (arith, first, second)

pub counts_bounded : (more before now : ℕ) → before ≤ 2 ^ 64 - 1 → Counts more before now → now ≤ 2 ^ 64 - 1
counts_bounded more before now bound counts = omega (arith, bound, counts)

-- a count whose next value is told, as that of reads
pub counts_next : (more before now : ℕ) → before ≤ 2 ^ 64 - 1 → now ≡ min (before + more) (2 ^ 64 - 1) → Counts more before now
counts_next more before now bound next = omega (arith, bound, next)

pub next_counts : (more before now : ℕ) → before ≤ 2 ^ 64 - 1 → Counts more before now → now ≡ min (before + more) (2 ^ 64 - 1)
next_counts more before now bound counts = omega (arith, bound, counts)

-- A rise by at least so many.

pub rose_none : (count : ℕ) → RoseBy 0 count count
rose_none count = omega arith

pub counts_rose : (more before now : ℕ) → Counts more before now → RoseBy more before now
counts_rose more before now counts = omega (arith, counts)

pub rose_then : (least further before between now : ℕ) → RoseBy least before between → RoseBy further between now → RoseBy (least + further) before now
rose_then least further before between now first second = omega (arith, first, second)

pub rose_less : (less least before now : ℕ) → less ≤ least → RoseBy least before now → RoseBy less before now
rose_less less least before now fewer rose = omega (arith, fewer, rose)

-- so a count that rose by anything hasn't fallen
pub rose_no_less : (least before now : ℕ) → before ≤ 2 ^ 64 - 1 → RoseBy least before now → before ≤ now
rose_no_less least before now bound rose = omega (arith, bound, rose)

-- A sum, of which one member changes.

sum_at : (xs ys : List ℕ) (n : ℕ) → sum (xs ++ n ∷ ys) ≡ n + (sum xs + sum ys)
sum_at xs ys n = omega (arith, sum_by-append (λ x. x) xs (n ∷ ys), sum_by-cons (λ x. x) n ys)

pub sum_bounded : (counts : List ℕ) → sum_of_counts counts ≤ 2 ^ 64 - 1
sum_bounded counts = omega arith

-- a member counts so many, and so does the sum
pub sum_counts : (xs ys : List ℕ) (more before now : ℕ) → Counts more before now → Counts more (sum_of_counts (xs ++ before ∷ ys)) (sum_of_counts (xs ++ now ∷ ys))
sum_counts xs ys more before now counts = omega (arith, counts, sum_at xs ys before, sum_at xs ys now)

pub sum_rose : (xs ys : List ℕ) (least before now : ℕ) → RoseBy least before now → RoseBy least (sum_of_counts (xs ++ before ∷ ys)) (sum_of_counts (xs ++ now ∷ ys))
sum_rose xs ys least before now rose = omega (arith, rose, sum_at xs ys before, sum_at xs ys now)

-- one that has counted nothing yet joins
pub sum_joined : (xs ys : List ℕ) → sum_of_counts (xs ++ 0 ∷ ys) ≡ sum_of_counts (xs ++ ys)
sum_joined xs ys = omega (arith, sum_at xs ys 0, sum_by-append (λ x. x) xs ys)

-- one is given back to the first, which counts what it did
pub sum_given_back : (xs ys : List ℕ) (given before now : ℕ) → Counts given before now → sum_of_counts (before ∷ (xs ++ given ∷ ys)) ≡ sum_of_counts (now ∷ (xs ++ ys))
sum_given_back xs ys given before now counts = omega (
  arith,
  counts,
  sum_by-cons (λ x. x) before (xs ++ given ∷ ys),
  sum_at xs ys given,
  sum_by-cons (λ x. x) now (xs ++ ys),
  sum_by-append (λ x. x) xs ys,
)
