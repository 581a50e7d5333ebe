-- Lists: one element changed, and sums.
use Rattle.std.proofs.Common.{◌≡◌, refl, ap, sym, subst, ◌∙◌, ℕ, zero, suc, ◌+◌, ◌<◌, List, [], ◌∷◌, length, map, take, slice_get, slice_set, get_or, Some, None, arith}
use Rattle.std.specs.List.{AllByRecursion}
use Rattle.std.proofs.lemmas.Option.{slice_get-get_or}

pub some_one : {X : Type 0} (x y : X) → Some x ≡ Some y → x ≡ y
some_one x y e = cc

pub none_some : {X : Type 0} (x : X) → None ≡ Some x → ⊥
none_some x e = cc

pub get_set : {X : Type 0} (xs : List X) (p : ℕ) (x y : X) → slice_get xs p ≡ Some x → slice_get (slice_set xs p y) p ≡ Some y
get_set [] p x y is = absurd (none_some x is)
get_set (z ∷ xs) zero x y is = refl
get_set (z ∷ xs) (suc p) x y is = get_set xs p x y is

pub get_other : {X : Type 0} (xs : List X) (p q : ℕ) (y : X) → (q ≡ p → ⊥) → slice_get (slice_set xs p y) q ≡ slice_get xs q
get_other [] p q y ne = refl
get_other (z ∷ xs) zero zero y ne = absurd (ne refl)
get_other (z ∷ xs) zero (suc q) y ne = refl
get_other (z ∷ xs) (suc p) zero y ne = refl
get_other (z ∷ xs) (suc p) (suc q) y ne = get_other xs p q y (λ e. ne (ap suc e))

pub set_same : {X : Type 0} (xs : List X) (p : ℕ) (x : X) → slice_get xs p ≡ Some x → slice_set xs p x ≡ xs
set_same [] p x is = refl
set_same (z ∷ xs) zero x is = ap (λ y. y ∷ xs) (sym (some_one z x is))
set_same (z ∷ xs) (suc p) x is = ap (λ ys. z ∷ ys) (set_same xs p x is)

pub length-set : {X : Type 0} (xs : List X) (p : ℕ) (y : X) → length (slice_set xs p y) ≡ length xs
length-set [] p y = refl
length-set (x ∷ xs) zero y = refl
length-set (x ∷ xs) (suc p) y = ap suc (length-set xs p y)

pub all_set : {X : Type 0} (P : X → Type 0) (xs : List X) (p : ℕ) (y : X) → AllByRecursion P xs → P y → AllByRecursion P (slice_set xs p y)
all_set P [] p y h g = tt
all_set P (x ∷ xs) zero y h g = (g, h.1)
all_set P (x ∷ xs) (suc p) y h g = (h.0, all_set P xs p y h.1 g)

pub all_get : {X : Type 0} (P : X → Type 0) (xs : List X) (p : ℕ) (x : X) → AllByRecursion P xs → slice_get xs p ≡ Some x → P x
all_get P [] p x h is = absurd (none_some x is)
all_get P (z ∷ xs) zero x h is = subst P (some_one z x is) h.0
all_get P (z ∷ xs) (suc p) x h is = all_get P xs p x h.1 is

pub map_get : {X Y : Type 0} (f : X → Y) (xs : List X) (i : ℕ) (x : X) → slice_get xs i ≡ Some x → slice_get (map f xs) i ≡ Some (f x)
map_get f [] i x is = absurd (none_some x is)
map_get f (y ∷ xs) zero x is = ap (λ z. Some (f z)) (some_one y x is)
map_get f (y ∷ xs) (suc i) x is = map_get f xs i x is

pub map_set : {X Y : Type 0} (f : X → Y) (xs : List X) (i : ℕ) (x : X) → map f (slice_set xs i x) ≡ slice_set (map f xs) i (f x)
map_set f [] i x = refl
map_set f (y ∷ xs) zero x = refl
map_set f (y ∷ xs) (suc i) x = ap (λ ys. f y ∷ ys) (map_set f xs i x)

pub at_index : {X : Type 0} (xs : List X) (i : ℕ) (x : X) → i < length xs → x ≡ get_or xs i x → slice_get xs i ≡ Some x
at_index xs i x lt is = slice_get-get_or xs i x lt ∙ ap Some (sym is)

-- what is summed up of each element
module _ {X : Type 0} (f : X → ℕ) where
  abbrev pub total : List X → ℕ
  total [] = 0
  total (x ∷ xs) = f x + total xs

  pub total_more : (xs : List X) (i : ℕ) (x : X) → slice_get xs i ≡ Some x → total (take (suc i) xs) ≡ total (take i xs) + f x
  total_more [] i x is = absurd (none_some x is)
  total_more (y ∷ xs) zero x is = let same = ap f (some_one y x is) in omega arith
  total_more (y ∷ xs) (suc i) x is = let more = total_more xs i x is in omega arith

pub all_more : {X : Type 0} (P : X → Type 0) (xs : List X) (i : ℕ) (x : X) → slice_get xs i ≡ Some x → AllByRecursion P (take i xs) → P x → AllByRecursion P (take (suc i) xs)
all_more P [] i x is h g = tt
all_more P (y ∷ xs) zero x is h g = (subst P (sym (some_one y x is)) g, tt)
all_more P (y ∷ xs) (suc i) x is h g = (h.0, all_more P xs i x is h.1 g)
