-- Lists of places of a history, which are numbered from 1.
use Rattle.std.specs.Prelude.{◌≡◌, ◌⊎◌, ℕ, ◌+◌, ◌<◌, ◌≤◌, List, [], ◌∷◌}
use native.Mathlib.Decide.{dec_le}

-- the numbers rise, from above low on
abbrev pub Rises : ℕ → List ℕ → Type 0
Rises low [] = Unit {0}
Rises low (x ∷ xs) = (low < x) × Rises x xs

abbrev pub Has : List ℕ → ℕ → Type 0
Has [] p = ⊥
Has (x ∷ xs) p = (x ≡ p) ⊎ Has xs p

-- the numbers rise from 1 or more to n or less
abbrev pub RiseUpTo : ℕ → List ℕ → Type 0
RiseUpTo n xs = Rises 0 xs × ((p : ℕ) → Has xs p → p ≤ n)

-- the n places after low
abbrev pub places_after : ℕ → ℕ → List ℕ
places_after low Rattle.std.proofs.Common.zero = []
places_after low (Rattle.std.proofs.Common.suc n) = (low + 1) ∷ places_after (low + 1) n

abbrev pub pick : {P A : Type 0} → Dec P → A → A → A
pick (yes _) x y = x
pick (no _) x y = y

-- n comes before the first number that is no smaller
abbrev pub insert : ℕ → List ℕ → List ℕ
insert n [] = n ∷ []
insert n (x ∷ xs) = pick (dec_le n x) (n ∷ x ∷ xs) (x ∷ insert n xs)

-- both lists, in one that rises
abbrev pub merged : List ℕ → List ℕ → List ℕ
merged xs [] = xs
merged xs (y ∷ ys) = insert y (merged xs ys)
