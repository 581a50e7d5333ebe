-- What stands in a row under a name of the header, wherever in the file that is.
use Rattle.std.specs.Prelude.{◌≡◌, ℕ, List, [], ◌∷◌, ◌++◌, map, filter, take, drop, slice_get, Option, Some, None, option_and_then, Bool as Truth, true, false, if◌then◌else◌, ⊤}
use Rattle.std.specs.List.{list_any}
use Rattle.cell_text.specs.Cells.{is_word}
use Rattle.pk_values.specs.Schemas.{Layout}
use Rattle.pk_values.specs.declared.cells.Column.{Column}
use Rattle.pk_values.specs.declared.cells.Value.{Value}
use Rattle.pk_model.specs.declared.calls.Op.{Op}
use Rattle.pk_model.specs.declared.calls.Op.TheVariants.{Upsert, Delete}
use Rattle.pk_model.specs.declared.calls.Load.{Load}
use Rattle.load_csv.specs.Headers.{op_name}
use Rattle.load_csv.specs.Lines.{cell_in, delete_told}
use Rattle.load_csv.specs.Loads.{records_of}

-- the text of a row under a name of the header
abbrev pub text_under : List (List ℕ) → List (List ℕ) → List ℕ → Option (List ℕ)
text_under [] texts name = None
text_under (n ∷ names) [] name = None
text_under (n ∷ names) (text ∷ texts) name = if is_word n name then Some text else text_under names texts name

-- the cell of a row in a column: what the text under the column's name reads as
abbrev pub cell_under : List (List ℕ) → List (List ℕ) → Column → Option Value
cell_under names texts column = option_and_then (cell_in column) (text_under names texts column.name)

-- whether a row deletes, from the text under `__op`: it does not where there is none
abbrev pub deletes : Option (List ℕ) → Option Truth
deletes None = Some false
deletes (Some text) = delete_told text

-- a column's name stands in the header
abbrev pub is_named : List (List ℕ) → Column → Truth
is_named names column = list_any (λ n. is_word n column.name) names

-- a line says what its row has under the names of the table's columns: the cells of those that the header names, or, as a delete,
-- those of the key
abbrev pub SaysRow : Layout → List (List ℕ) → List (List ℕ) → Op → Type 0
SaysRow s names texts (Upsert key cells) =
    (deletes (text_under names texts op_name) ≡ Some false) × (map (cell_under names texts) (filter (is_named names) s.columns) ≡ map Some (key ++ cells))
SaysRow s names texts (Delete key) =
    (deletes (text_under names texts op_name) ≡ Some true) × (map (cell_under names texts) (take s.keys s.columns) ≡ map Some key)

-- one line for each row, in the order of the file
abbrev pub SaysRows : Layout → List (List ℕ) → List (List (List ℕ)) → List Op → Type 0
SaysRows s names [] [] = ⊤
SaysRows s names [] (op ∷ ops) = ⊥
SaysRows s names (row ∷ rows) [] = ⊥
SaysRows s names (row ∷ rows) (op ∷ ops) = SaysRow s names row op × SaysRows s names rows ops

-- a load says what a file has under the names of its header, whatever their order; it carries the columns outside the key that are named
pub record SaysFile (s : Layout) (bytes : List ℕ) (load : Load) : Type 0 where
  pub names : List (List ℕ)
  pub rows : List (List (List ℕ))
  pub records : records_of bytes ≡ names ∷ rows
  pub carried : map (slice_get s.columns) load.given ≡ map Some (filter (is_named names) (drop s.keys s.columns))
  pub lines : SaysRows s names rows load.ops
