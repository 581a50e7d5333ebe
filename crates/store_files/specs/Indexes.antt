-- The index of the live rows of a version's files.
use Rattle.std.specs.Prelude.{◌≡◌, ℕ, ◌+◌, ◌==◌, List, [], ◌∷◌, ◌++◌, Some, None, cond, IsTrue}
use Rattle.std.specs.List.{list_any}
use Rattle.std.specs.FinMap.{get, empty}
use Rattle.pk_values.specs.Schemas.{Layout, fits_key, fits_row, key_of, schema_fault}
use Rattle.pk_values.specs.declared.cells.Value.{Value}
use Rattle.key_code.specs.KeyCode.{key_code}
use Rattle.pk_model.specs.Tables.{Rows}
use Rattle.index_level0.specs.declared.place.Place.{Place}
use Rattle.rowsets.specs.Live.{Part, Files, live, FilesOnce, StandsFor}
use Rattle.rowsets.specs.Ending.{Moved, AreMoved}
use Rattle.rowsets.specs.Indexing.{CodeMap, CodeMove, by_code, merged_place, put_all}
use Rattle.store_files.specs.Keys.{live_codes}

-- the codes and places of the live rows of parts, one part after the other
abbrev pub all_codes : Layout → Files → List Part → List CodeMove
all_codes s stored [] = []
all_codes s stored (part ∷ parts) = live_codes s part.file part.dead 0 (stored part.file) ++ all_codes s stored parts

-- of the rows of a file from number i on, the keys and places of the live ones
abbrev pub live_moved : Layout → ℕ → List ℕ → ℕ → List (List Value) → List Moved
live_moved s file dead i [] = []
live_moved s file dead i (row ∷ rows) =
    cond (list_any (λ r. r == i) dead) (live_moved s file dead (i + 1) rows) (record { key = key_of s row; place = record { segment = file; row = i } } ∷ live_moved s file dead (i + 1) rows)

-- and those of the live rows of parts
abbrev pub all_moved : Layout → Files → List Part → List Moved
all_moved s stored [] = []
all_moved s stored (part ∷ parts) = live_moved s part.file part.dead 0 (stored part.file) ++ all_moved s stored parts

-- the map from these codes to these places
abbrev pub codes_of : Layout → Files → List Part → CodeMap
codes_of s stored parts = put_all (all_codes s stored parts) empty

-- each live row of the parts fits
abbrev pub LiveFit : Layout → Files → List Part → Type 0
LiveFit s stored parts = (p : Place) (row : List Value) → live stored parts p ≡ Some row → IsTrue (fits_row s row)

-- the keys and places are those of all live rows
abbrev pub LiveAreMoved : Type 0
LiveAreMoved = (s : Layout) (stored : Files) (parts : List Part) → FilesOnce parts → AreMoved s (live stored parts) (all_moved s stored parts)

-- Where the live rows stand for a map, the codes find each key's row, and no other.
abbrev pub CodesFindRows : Type 0
CodesFindRows = (s : Layout) (stored : Files) (parts : List Part) (m : Rows) → schema_fault s.columns s.keys ≡ None → FilesOnce parts
    → StandsFor s (live stored parts) m → LiveFit s stored parts
    → (k : List Value) → by_code (fits_key s) (key_code s) (get (codes_of s stored parts)) k ≡ merged_place (all_moved s stored parts) k
