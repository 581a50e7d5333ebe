-- Lists of rows, each in the order of its keys, as one list.
use Rattle.std.specs.Prelude.{ℕ, zero, suc, List, [], ◌∷◌, ◌++◌, Option, Some, None, Bool as Truth, true, false, cond}
use Rattle.std.specs.Ordering.{is_lt}
use Rattle.pk_values.specs.Order.{key_cmp}
use Rattle.pk_values.specs.Schemas.{Layout, key_of}
use Rattle.pk_values.specs.declared.cells.Value.{Value}

-- the first row's key is less than the second one's
abbrev pub below : Layout → List Value → List Value → Truth
below s a b = is_lt (key_cmp (key_of s a) (key_of s b))

-- The row x stands before the first of the others that isn't below it, and behind it `rest` of them.
abbrev pub merge_into : Layout → List Value → (List (List Value) → List (List Value)) → List (List Value) → List (List Value)
merge_into s x rest [] = x ∷ rest []
merge_into s x rest (y ∷ ys) = cond (below s y x) (y ∷ merge_into s x rest ys) (x ∷ rest (y ∷ ys))

-- two lists as one in the order of keys
abbrev pub merge : Layout → List (List Value) → List (List Value) → List (List Value)
merge s [] ys = ys
merge s (x ∷ xs) ys = merge_into s x (merge s xs) ys

-- any number of lists as one
abbrev pub merge_all : Layout → List (List (List Value)) → List (List Value)
merge_all s [] = []
merge_all s (xs ∷ lists) = merge s xs (merge_all s lists)

abbrev pub head_of : List (List Value) → Option (List Value)
head_of [] = None
head_of (x ∷ xs) = Some x

-- the first row of the list in a place
abbrev pub head_at : List (List (List Value)) → ℕ → Option (List Value)
head_at [] i = None
head_at (xs ∷ lists) zero = head_of xs
head_at (xs ∷ lists) (suc i) = head_at lists i

-- by its key a row comes before the other, and before there is none
abbrev pub comes_before : Layout → Option (List Value) → Option (List Value) → Truth
comes_before s None b = false
comes_before s (Some a) None = true
comes_before s (Some a) (Some b) = below s a b
