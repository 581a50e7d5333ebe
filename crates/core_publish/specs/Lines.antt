-- The lines of a load in the order of their keys.
use Rattle.std.specs.Prelude.{◌≡◌, ℕ, ◌+◌, ◌<◌, ◌≤◌, ◌==◌, All, List, [], ◌∷◌, map, length, get_or, Option, IsPermutation, IsTrue, T, ⊤, Bool as Truth}
use Rattle.std.specs.List.{IsDistinct}
use Rattle.std.specs.Ordering.{nat_cmp, ordering_then}
use Rattle.std.specs.declared.cmp.Ordering.{Ordering}
use Rattle.key_code.specs.KeyCode.{key_code}
use Rattle.key_code.specs.Prefixes.{AreBytes, prefix_of}
use Rattle.pk_values.specs.Order.{key_cmp}
use Rattle.pk_values.specs.Schemas.{Layout, fits_key}
use Rattle.pk_values.specs.declared.cells.Value.{Value}
use Rattle.pk_model.specs.Laws.{result_for}
use Rattle.pk_model.specs.Lawful.{most_code_bytes}
use Rattle.pk_model.specs.Merges.{rise}
use Rattle.pk_model.specs.Tables.{key_named}
use Rattle.pk_model.specs.declared.calls.Op.{Op}
use Rattle.pk_model.specs.declared.calls.Op.TheVariants.{Delete}
use Rattle.core_publish.specs.declared.lines.Rank.{Rank}

-- the key fits, and its code is short enough
pub record IsShortKey (s : Layout) (key : List Value) : Type 0 where
  pub fits : IsTrue (fits_key s key)
  pub short : length (key_code s key) ≤ most_code_bytes

-- the line in a place of a load
abbrev pub op_at : List Op → ℕ → Op
op_at ops line = get_or ops line (Delete [])

-- the key that it names
abbrev pub key_at : List Op → ℕ → List Value
key_at ops line = key_named (op_at ops line)

-- the lines of a load in these places
abbrev pub lines_in : List Op → List Rank → List Op
lines_in ops ranks = map (λ r. op_at ops r.line) ranks

-- a line is there, and the number beside its place is that of its key's code
pub record IsRanked (s : Layout) (ops : List Op) (rank : Rank) : Type 0 where
  pub within : rank.line < length ops
  pub key : IsShortKey s (key_at ops rank.line)
  pub number : rank.number ≡ prefix_of (key_code s (key_at ops rank.line))
  pub bytes : AreBytes (key_code s (key_at ops rank.line))

-- by the numbers, and where these are the same by the keys
abbrev pub rank_cmp : List Op → Rank → Rank → Ordering
rank_cmp ops a b = ordering_then (nat_cmp a.number b.number) (key_cmp (key_at ops a.line) (key_at ops b.line))

-- their places count up from this one
abbrev pub AreCounted : ℕ → List Rank → Type 0
AreCounted line [] = ⊤
AreCounted line (r ∷ ranks) = (r.line ≡ line) × AreCounted (line + 1) ranks

-- both stand for one line
abbrev pub same_line : Rank → Rank → Truth
same_line a b = a.line == b.line

-- The same lines in the order of their keys: those of one key stand as they stood, so each key's result is the same.
pub record IsSortedLoad (s : Layout) (ops lines : List Op) : Type 0 where
  pub rises : T (rise lines)
  pub same : (given : List ℕ) (key : List Value) (old : Option (List Value)) → result_for s given lines key old ≡ result_for s given ops key old
  pub moved : IsPermutation ops lines

-- the places of the lines of a load, each once, in the order of their keys
pub record IsOrder (s : Layout) (ops : List Op) (order : List Rank) : Type 0 where
  pub ranked : All (IsRanked s ops) order
  pub apart : IsDistinct same_line order
  pub sorted : IsSortedLoad s ops (lines_in ops order)
