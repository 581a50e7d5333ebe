-- Which loads a table takes.
use Rattle.std.specs.Prelude.{All, ℕ, ◌+◌, ◌≤◌, List, [], ◌∷◌, length, drop, slice_get, Option, Some, None, is_some}
use Rattle.std.specs.Prelude.{Bool as Truth, true, false, ◌&&◌, ◌||◌, not, ◌==◌, nat_le, nat_lt, IsTrue}
use Rattle.std.specs.List.{list_all, list_any}
use Rattle.key_code.specs.KeyCode.{key_code}
use Rattle.pk_values.specs.Fits.{fits}
use Rattle.pk_values.specs.Schemas.{Layout, fits_key}
use Rattle.pk_values.specs.declared.cells.Value.{Value}
use Rattle.pk_values.specs.declared.cells.Column.{Column}
use Rattle.pk_model.specs.declared.calls.Op.{Op}
use Rattle.pk_model.specs.declared.calls.Op.TheVariants.{Upsert, Delete}
use Rattle.pk_model.specs.declared.calls.Load.{Load}
use Rattle.pk_model.specs.Tables.{key_named}

-- a load has at most so many lines
abbrev pub most_lines : ℕ
most_lines = 262144

-- a rising list of places from a to below b
abbrev pub rise_within : ℕ → ℕ → List ℕ → Truth
rise_within a b [] = true
rise_within a b (place ∷ places) = nat_le a place && nat_lt place b && rise_within (place + 1) b places

-- a column that no new row can go without: it has no default and takes no NULL
abbrev pub is_needed : Column → Truth
is_needed c = not (is_some c.default) && not c.nullable

-- each needed column among these, of which the first stands at place i, is carried
abbrev pub carries_needed : List ℕ → ℕ → List Column → Truth
carries_needed given i [] = true
carries_needed given i (c ∷ cs) =
    (not (is_needed c) || list_any (λ place. place == i) given) && carries_needed given (i + 1) cs

abbrev pub fits_at : Option Column → Value → Truth
fits_at None v = false
fits_at (Some c) v = fits c v

-- one fitting cell for each carried column
abbrev pub fits_given : Layout → List ℕ → List Value → Truth
fits_given s [] [] = true
fits_given s [] (v ∷ vs) = false
fits_given s (place ∷ places) [] = false
fits_given s (place ∷ places) (v ∷ vs) = fits_at (slice_get s.columns place) v && fits_given s places vs

abbrev pub fits_line : Layout → List ℕ → Op → Truth
fits_line s given (Delete key) = fits_key s key
fits_line s given (Upsert key cells) = fits_key s key && fits_given s given cells

-- a key's code has at most so many bytes
abbrev pub most_code_bytes : ℕ
most_code_bytes = 128

-- the key that a line names has a code that is short enough
abbrev pub HasShortKey : Layout → Op → Type 0
HasShortKey s op = length (key_code s (key_named op)) ≤ most_code_bytes

-- the carried columns are a rising list of columns outside the key with each needed one among them, keys and cells fit,
-- no key's code is too long, and there are not too many lines
pub record IsLawful (s : Layout) (load : Load) : Type 0 where
  pub given : IsTrue (rise_within s.keys (length s.columns) load.given)
  pub needed : IsTrue (carries_needed load.given s.keys (drop s.keys s.columns))
  pub lines : IsTrue (list_all (fits_line s load.given) load.ops)
  pub codes : All (HasShortKey s) load.ops
  pub count : length load.ops ≤ most_lines
