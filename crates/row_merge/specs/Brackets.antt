-- Brackets: which of the cursors has the first row, known by one match for each pair of sides.
use Rattle.std.specs.Prelude.{◌≡◌, ℕ, suc, ◌<◌, ◌≤◌, List, Option, true, false, cond}
use Rattle.pk_values.specs.Schemas.{Layout}
use Rattle.pk_values.specs.declared.cells.Value.{Value}
use Rattle.row_merge.specs.Merge.{comes_before}
use Rattle.row_merge.specs.declared.brackets.Bracket.{Bracket}
use Rattle.row_merge.specs.declared.brackets.Bracket.TheVariants.{Part, Match'}

-- its first part, and the one behind its last
abbrev pub start : Bracket → ℕ
start (Part i) = i
start (Match' p left middle first q right) = start left

abbrev pub end : Bracket → ℕ
end (Part i) = suc i
end (Match' p left middle first q right) = end right

-- the part that won it
abbrev pub leader : Bracket → ℕ
leader (Part i) = i
leader (Match' p left middle first q right) = first

-- the part of two whose row comes first, and the former where neither does
abbrev pub better : Layout → (ℕ → Option (List Value)) → ℕ → ℕ → ℕ
better s front a b = cond (comes_before s (front b) (front a)) b a

-- of n parts with these first rows each match was won by the better side
abbrev pub IsBracket : Layout → (ℕ → Option (List Value)) → ℕ → Bracket → Type 0
IsBracket s front n (Part i) = i < n
IsBracket s front n (Match' p left middle first q right) =
    IsBracket s front n left × IsBracket s front n right × (end left ≡ middle) × (start right ≡ middle) × (first ≡ better s front (leader left) (leader right))

-- the same, but for the matches that one part is in
abbrev pub IsStale : Layout → (ℕ → Option (List Value)) → ℕ → ℕ → Bracket → Type 0
IsStale s front n part (Part i) = i < n
IsStale s front n part (Match' p left middle first q right) =
    (part < middle → IsStale s front n part left) × (middle ≤ part → IsBracket s front n left)
    × (part < middle → IsBracket s front n right) × (middle ≤ part → IsStale s front n part right) × (end left ≡ middle) × (start right ≡ middle)

-- This part has the first row of all: those of parts before it come later, and those of parts behind it don't come before.
pub record IsLeading (s : Layout) (front : ℕ → Option (List Value)) (w : ℕ) : Type 0 where
  pub before : (i : ℕ) → i < w → comes_before s (front w) (front i) ≡ true
  pub behind : (i : ℕ) → w ≤ i → comes_before s (front i) (front w) ≡ false
