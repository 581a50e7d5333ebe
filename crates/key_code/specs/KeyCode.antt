-- The code of a key.
use Rattle.std.specs.Prelude.{◌≡◌, ℕ, Bool as Truth, true, false, if◌then◌else◌, List, [], ◌∷◌, ◌++◌, take, IsTrue}
use Rattle.std.specs.Cmp.Lexicographic.{slice_cmp}
use Rattle.std.specs.Ordering.{nat_cmp}
use Rattle.pk_values.specs.declared.cells.Kind.{Kind}
use Rattle.pk_values.specs.declared.cells.Kind.TheVariants as kind
use Rattle.pk_values.specs.declared.cells.Value.{Value}
use Rattle.pk_values.specs.declared.cells.Value.TheVariants as value
use Rattle.pk_values.specs.declared.cells.Column.{Column}
use Rattle.pk_values.specs.Schemas.{Layout, fits_key}
use Rattle.pk_values.specs.Order.{key_cmp}
use Rattle.fixed_code.specs.NumberCode.{number_code}
use Rattle.key_code.specs.Escapes.{escaped}

abbrev pub truth_code : Value → List ℕ
truth_code (value.Bool b) = (if b then 1 else 0) ∷ []
truth_code _ = []

abbrev pub numeric_code : ℕ → Value → List ℕ
numeric_code w (value.Num z) = number_code w z
numeric_code w _ = []

abbrev pub day_code : Value → List ℕ
day_code (value.Day z) = number_code 4 z
day_code _ = []

-- a text as it is where it ends the key, and else escaped
abbrev pub text_code : Truth → Value → List ℕ
text_code last (value.Text t) = if last then t else escaped t
text_code last _ = []

-- the code of a cell, where `last` tells whether its column is the key's last one
abbrev pub cell_code : Truth → Kind → Value → List ℕ
cell_code last kind.Boolean v = truth_code v
cell_code last kind.TinyInt v = numeric_code 1 v
cell_code last kind.SmallInt v = numeric_code 2 v
cell_code last kind.Int v = numeric_code 4 v
cell_code last kind.BigInt v = numeric_code 8 v
cell_code last kind.LargeInt v = numeric_code 16 v
cell_code last kind.Date v = day_code v
cell_code last (kind.Varchar n) v = text_code last v

abbrev pub no_more : List Column → Truth
no_more [] = true
no_more (c ∷ cs) = false

-- the codes of the cells of these columns, one after the other
abbrev pub cells_code : List Column → List Value → List ℕ
cells_code [] vs = []
cells_code (c ∷ cs) [] = []
cells_code (c ∷ cs) (v ∷ vs) = cell_code (no_more cs) c.kind v ++ cells_code cs vs

-- the code of a key
abbrev pub key_code : Layout → List Value → List ℕ
key_code s key = cells_code (take s.keys s.columns) key

-- the code compares with the code of each key as the keys do
abbrev pub IsInOrder : Layout → List Value → List ℕ → Type 0
IsInOrder s key code =
    (other : List Value) → IsTrue (fits_key s other) → slice_cmp nat_cmp code (key_code s other) ≡ key_cmp key other

-- no other key has this code
abbrev pub IsOnlyCodeOf : Layout → List Value → List ℕ → Type 0
IsOnlyCodeOf s key code = (other : List Value) → IsTrue (fits_key s other) → key_code s other ≡ code → other ≡ key
