-- The text of a cell in a report.
use Rattle.std.specs.Prelude.{◌≡◌, ℕ, pos, ◌≤ℤ◌, List, [], ◌∷◌, ◌++◌, Bool as Truth, true, false, ◌||◌, ◌==◌, Some, if◌then◌else◌, length, ⊤}
use Rattle.std.specs.Fmt.{signed_decimal}
use Rattle.std.specs.List.{list_any}
use Rattle.pk_values.specs.declared.cells.Value.{Value}
use Rattle.pk_values.specs.declared.cells.Value.TheVariants.{Null, Bool, Num, Day, Text}
use Rattle.pk_values.specs.declared.cells.Column.{Column}
use Rattle.pk_values.specs.Fits.{fits, null_mark}
use Rattle.cell_text.specs.Days.{date_text}
use Rattle.cell_text.specs.Cells.{cell_of}

-- a comma, a double quote, a carriage return or a line feed
abbrev pub is_special : ℕ → Truth
is_special b = (b == 44) || (b == 34) || (b == 13) || (b == 10)

-- a text is quoted where it is empty or holds a special byte
abbrev pub needs_quotes : List ℕ → Truth
needs_quotes text = (length text == 0) || list_any is_special text

-- each double quote twice
abbrev pub doubled : List ℕ → List ℕ
doubled [] = []
doubled (b ∷ bs) = if b == 34 then 34 ∷ 34 ∷ doubled bs else b ∷ doubled bs

abbrev pub quoted : List ℕ → List ℕ
quoted text = 34 ∷ (doubled text ++ 34 ∷ [])

-- a text as it is, or in quotes where it needs them
abbrev pub text_text : List ℕ → List ℕ
text_text text = if needs_quotes text then quoted text else text

-- a cell: `\N`, `0` or `1`, a number in decimal digits, a date as `YYYY-MM-DD`, a text
abbrev pub cell_text : Value → List ℕ
cell_text Null = null_mark
cell_text (Bool b) = if b then 49 ∷ [] else 48 ∷ []
cell_text (Num z) = signed_decimal z
cell_text (Day d) = date_text d
cell_text (Text t) = text_text t

-- a day from 0000-01-01 to 9999-12-31, or a value of another kind
abbrev pub IsWritable : Value → Type 0
IsWritable (Day d) = (pos 0 ≤ℤ d) × (d ≤ℤ pos 3652424)
IsWritable _ = ⊤

abbrev pub is_quoted : Value → Truth
is_quoted (Text t) = needs_quotes t
is_quoted _ = false

-- what a column holds, and a report does not quote, reads back as the same cell
abbrev pub ReadsBack : Value → Type 0
ReadsBack value = (column : Column) → fits column value ≡ true → is_quoted value ≡ false → cell_of column.kind (cell_text value) ≡ Some value
