-- What a row of a load file does.
use Rattle.std.specs.Prelude.{ℕ, ◌+◌, ◌==◌, ◌||◌, List, [], ◌∷◌, length, take, drop, map, slice_get, slice_set, codes, Option, Some, None, option_and_then, Result, Ok, Err, Bool as Truth, true, false, not, nat_lt, if◌then◌else◌}
use Rattle.std.specs.List.{list_any}
use Rattle.cell_text.specs.Cells.{cell_of, is_word}
use Rattle.key_code.specs.KeyCode.{key_code}
use Rattle.pk_values.specs.Fits.{fits}
use Rattle.pk_values.specs.Schemas.{Layout}
use Rattle.pk_values.specs.declared.cells.Column.{Column}
use Rattle.pk_values.specs.declared.cells.Value.{Value}
use Rattle.pk_values.specs.declared.cells.Value.TheVariants.{Null}
use Rattle.pk_model.specs.declared.calls.Op.{Op}
use Rattle.pk_model.specs.declared.calls.Op.TheVariants.{Upsert, Delete}
use Rattle.load_csv.specs.declared.loads.LoadFault.{LoadFault}
use Rattle.load_csv.specs.declared.loads.LoadFault.TheVariants.{Width, BadOp, BadCell, KeyTooLong}
use Rattle.load_csv.specs.declared.headers.Field.{Field}
use Rattle.load_csv.specs.declared.headers.Field.TheVariants as field
use Rattle.load_csv.specs.Results.{◌and_then◌}
use Rattle.load_csv.specs.Headers.{is_same}

-- ---- whether a row is a delete

-- `0` is an upsert, and `1` a delete
abbrev pub delete_told : List ℕ → Option Truth
delete_told text = if is_word text (codes "0") then Some false else if is_word text (codes "1") then Some true else None

-- what the `__op` of a row tells; a row without it is an upsert
abbrev pub is_delete : List Field → List (List ℕ) → Option Truth
is_delete [] texts = Some false
is_delete (f ∷ fields) [] = Some false
is_delete (field.Op ∷ fields) (text ∷ texts) = delete_told text
is_delete (field.Column i ∷ fields) (text ∷ texts) = is_delete fields texts

-- ---- the cells of a row

abbrev pub if_fits : Column → Value → Option Value
if_fits column value = if fits column value then Some value else None

-- the cell that a text is in a column: what it reads as, where the column takes that
abbrev pub cell_in : Column → List ℕ → Option Value
cell_in column text = option_and_then (if_fits column) (cell_of column.kind text)

abbrev pub cell_at : Option Column → List ℕ → Option Value
cell_at None text = None
cell_at (Some column) text = cell_in column text

-- a delete reads the columns of its key alone
abbrev pub is_read : Layout → Truth → ℕ → Truth
is_read s delete i = not delete || nat_lt i s.keys

-- the cells with one more in place i, or the fault of row n, whose field c, counted from 1, has none
abbrev pub with_cell : ℕ → ℕ → List Value → ℕ → Option Value → Result (List Value) LoadFault
with_cell n c cells i None = Err (BadCell n c)
with_cell n c cells i (Some v) = Ok (slice_set cells i v)

-- the cells with that of one field
abbrev pub with_field : Layout → ℕ → Truth → ℕ → List Value → Field → List ℕ → Result (List Value) LoadFault
with_field s n delete c cells field.Op text = Ok cells
with_field s n delete c cells (field.Column i) text =
    if is_read s delete i then with_cell n c cells i (cell_at (slice_get s.columns i) text) else Ok cells

-- the cells with those of the fields from c on, each in the place of its column, or the fault of the first bad one
abbrev pub with_fields : Layout → ℕ → Truth → ℕ → List Value → List Field → List (List ℕ) → Result (List Value) LoadFault
with_fields s n delete c cells [] texts = Ok cells
with_fields s n delete c cells (f ∷ fields) [] = Ok cells
with_fields s n delete c cells (f ∷ fields) (text ∷ texts) =
    with_field s n delete c cells f text and_then (λ more. with_fields s n delete (c + 1) more fields texts)

-- a cell for each column, none of which is read yet
abbrev pub no_cells : Layout → List Value
no_cells s = map (λ c. Null) s.columns

-- the cells of row n, in the order of the table
abbrev pub cells_of : Layout → List Field → ℕ → Truth → List (List ℕ) → Result (List Value) LoadFault
cells_of s fields n delete texts = with_fields s n delete 1 (no_cells s) fields texts

-- ---- the line that a row is

abbrev pub op_of : Truth → List Value → List Value → Op
op_of true key others = Delete key
op_of false key others = Upsert key others

-- for each of these columns whether a field stands for it; the first of them has place i
abbrev pub marks : List Field → ℕ → List Column → List Truth
marks fields i [] = []
marks fields i (c ∷ cs) = list_any (is_same (field.Column i)) fields ∷ marks fields (i + 1) cs

-- and for each column outside the key
abbrev pub other_marks : Layout → List Field → List Truth
other_marks s fields = marks fields s.keys (drop s.keys s.columns)

-- those that are marked
abbrev pub pick : {X : Type 0} → List Truth → List X → List X
pick [] xs = []
pick (m ∷ ms) [] = []
pick (m ∷ ms) (x ∷ xs) = if m then x ∷ pick ms xs else pick ms xs

-- a delete of the key that the first cells are, or an upsert of those of the others that the file gives
abbrev pub line_of_cells : Layout → List Field → Truth → List Value → Op
line_of_cells s fields delete cells = op_of delete (take s.keys cells) (pick (other_marks s fields) (drop s.keys cells))

-- the code of a key has at most so many bytes
abbrev pub longest : ℕ
longest = 128

abbrev pub if_short : ℕ → ℕ → Op → Result Op LoadFault
if_short n len op = if nat_lt longest len then Err (KeyTooLong n len) else Ok op

abbrev pub line_with : Layout → List Field → ℕ → Truth → List Value → Result Op LoadFault
line_with s fields n delete cells = if_short n (length (key_code s (take s.keys cells))) (line_of_cells s fields delete cells)

abbrev pub line_told : Layout → List Field → ℕ → Option Truth → List (List ℕ) → Result Op LoadFault
line_told s fields n None texts = Err (BadOp n)
line_told s fields n (Some delete) texts = cells_of s fields n delete texts and_then line_with s fields n delete

-- the line that row n is, under a header: its width is judged first, then its `__op`, then its cells, and its key's length last
abbrev pub line_of : Layout → List Field → ℕ → List (List ℕ) → Result Op LoadFault
line_of s fields n texts = if length texts == length fields then line_told s fields n (is_delete fields texts) texts else Err (Width n)
