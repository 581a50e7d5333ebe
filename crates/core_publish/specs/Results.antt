-- What the lines of a whole load, in the order of their keys, leave: one result a key, the row of an upsert or none.
use Rattle.std.specs.Prelude.{ℕ, ◌+◌, ◌/◌, ◌%◌, List, [], ◌∷◌, ◌++◌, Option, Some, None, cond}
use Rattle.key_code.specs.KeyCode.{key_code}
use Rattle.pk_values.specs.Schemas.{Layout}
use Rattle.pk_values.specs.declared.cells.Value.{Value}
use Rattle.pk_model.specs.Merges.{names_next}
use Rattle.pk_model.specs.Tables.{key_named}
use Rattle.pk_model.specs.declared.calls.Op.{Op}
use Rattle.pk_model.specs.declared.calls.Op.TheVariants.{Upsert, Delete}
use Rattle.index_level0.specs.declared.place.Place.{Place}
use Rattle.rowsets.specs.Indexing.{CodeMove}

-- a key and the row that stands at it in the end, if any
abbrev pub KeyResult : Type 0
KeyResult = List Value × Option (List Value)

-- the row that a line of a whole load leaves at its key
abbrev pub row_left : Op → Option (List Value)
row_left (Delete key) = None
row_left (Upsert key cells) = Some (key ++ cells)

-- of lines in the order of their keys, the last one of each key counts
abbrev pub results : List Op → List KeyResult
results [] = []
results (op ∷ ops) = cond (names_next (key_named op) ops) (results ops) ((key_named op, row_left op) ∷ results ops)

-- the rows, in the order of their keys
abbrev pub rows_left : List KeyResult → List (List Value)
rows_left [] = []
rows_left ((key, None) ∷ rs) = rows_left rs
rows_left ((key, Some row) ∷ rs) = row ∷ rows_left rs

-- the place of row i of all, in files of 65,536 rows
abbrev pub place_at : ℕ → Place
place_at i = record { segment = i / 65536; row = i % 65536 }

-- each key's code and the place of its row, of which the first one is row i of all
abbrev pub placed : Layout → ℕ → List KeyResult → List CodeMove
placed s i [] = []
placed s i ((key, None) ∷ rs) = (key_code s key, None) ∷ placed s i rs
placed s i ((key, Some row) ∷ rs) = (key_code s key, Some (place_at i)) ∷ placed s (i + 1) rs
