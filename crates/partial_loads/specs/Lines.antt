-- The lines of a load beside the codes of their keys.
use Rattle.std.specs.Prelude.{◌≡◌, ℕ, ◌≤◌, All, List, map, length, Option, IsTrue, T}
use Rattle.key_code.specs.KeyCode.{IsInOrder, key_code}
use Rattle.pk_values.specs.Schemas.{Layout, fits_key}
use Rattle.pk_values.specs.declared.cells.Value.{Value}
use Rattle.pk_model.specs.Lawful.{most_code_bytes}
use Rattle.pk_model.specs.Merges.{rise}
use Rattle.pk_model.specs.Tables.{key_named, touches}
use Rattle.pk_model.specs.declared.calls.Op.{Op}
use Rattle.rowsets.specs.Live.{is_among}
use Rattle.partial_loads.specs.declared.lines.Line.{Line}
use Rattle.partial_loads.specs.Folds.{change_at}

-- the key fits, and its code is short enough
pub record IsShortKey (s : Layout) (key : List Value) : Type 0 where
  pub fits : IsTrue (fits_key s key)
  pub short : length (key_code s key) ≤ most_code_bytes

-- the code that stands with a line is that of its key, and compares with other codes as the keys do
pub record IsCoded (s : Layout) (line : Line) : Type 0 where
  pub key : IsShortKey s (key_named line.op)
  pub code : line.code ≡ key_code s (key_named line.op)
  pub order : IsInOrder s (key_named line.op) line.code

abbrev pub ops_of : List Line → List Op
ops_of lines = map (λ line. line.op) lines

-- The same lines in the order of their keys: those of one key stand as they stood, so they come to the same change.
pub record AreSorted (s : Layout) (ops : List Op) (lines : List Line) : Type 0 where
  pub coded : All (IsCoded s) lines
  pub rises : T (rise (ops_of lines))
  pub named : (k : List Value) → is_among (touches (ops_of lines)) k ≡ is_among (touches ops) k
  pub changes : (given : List ℕ) (when : Option ℕ) (k : List Value)
      → change_at given when (ops_of lines) k ≡ change_at given when ops k
