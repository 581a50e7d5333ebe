-- Which sort of value it is, and what holds of what is in it.
use Rattle.std.specs.Prelude.{ℕ, ℤ, List, ⊤}
use Rattle.pk_values.specs.declared.cells.Value.{Value}
use Rattle.pk_values.specs.declared.cells.Value.TheVariants as value
use Rattle.pk_values.specs.Texts.{LiesInPlace}

abbrev pub IsFlag : Value → Type 0
IsFlag (value.Bool b) = ⊤
IsFlag _ = ⊥

abbrev pub IsNumber : (ℤ → Type 0) → Value → Type 0
IsNumber P (value.Num z) = P z
IsNumber P _ = ⊥

abbrev pub IsDay : (ℤ → Type 0) → Value → Type 0
IsDay P (value.Day z) = P z
IsDay P _ = ⊥

abbrev pub IsText : (List ℕ → Type 0) → Value → Type 0
IsText P (value.Text t) = P t
IsText P _ = ⊥

-- a value that lies in 32 bytes: any but a long text
abbrev pub TakesNoMemory : Value → Type 0
TakesNoMemory (value.Text t) = LiesInPlace t
TakesNoMemory _ = ⊤
