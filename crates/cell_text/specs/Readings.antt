-- How an answer tells what was read.
use Rattle.std.specs.Prelude.{◌≡◌, ℕ, ◌-◌, ◌*◌, ◌^◌, ℤ, Option, Some, None, IsSomeAnd, option_and_then, Result, Ok, Err, List, length, nat_le, if◌then◌else◌, ⊤}
use Rattle.pk_values.specs.declared.cells.Value.{Value}
use Rattle.pk_values.specs.declared.cells.Value.TheVariants.{Text}
use Rattle.pk_values.specs.Fits.{in_range}
use Rattle.pk_values.specs.Shapes.{IsText}
use Rattle.cell_text.specs.Cells.{number_of}
use Rattle.cell_text.specs.declared.faults.CellFault.{CellFault}
use Rattle.cell_text.specs.declared.faults.CellFault.TheVariants.{BadCell, Memory}

-- a cell that is a text; NULL is none
abbrev pub IsTextCell : Option Value → Type 0
IsTextCell cell = IsSomeAnd cell (IsText (λ t. ⊤))

-- the value that was read, `BadCell` where there is none; memory can only be wanted for a text
abbrev pub IsReading : Option Value → Result Value CellFault → Type 0
IsReading cell (Ok value) = cell ≡ Some value
IsReading cell (Err BadCell) = cell ≡ None
IsReading cell (Err Memory) = IsTextCell cell

abbrev pub if_at_most : ℕ → ℕ → Option ℕ
if_at_most most n = if nat_le n most then Some n else None

-- the greatest number of w bytes
abbrev pub greatest : ℕ → ℕ
greatest w = 2 ^ (8 * w - 1) - 1

abbrev pub if_in_bytes : ℕ → ℤ → Option ℤ
if_in_bytes w z = if in_range (greatest w) z then Some z else None

-- the number that bytes spell, if it is one of w bytes
abbrev pub number_in : ℕ → List ℕ → Option ℤ
number_in w bytes = option_and_then (if_in_bytes w) (number_of bytes)

-- a text of at most n bytes
abbrev pub text_within : ℕ → List ℕ → Option Value
text_within n bytes = if nat_le (length bytes) n then Some (Text bytes) else None
