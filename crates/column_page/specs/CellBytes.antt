-- The bytes of a cell in a page.
use Rattle.std.specs.Prelude.{◌≡◌, ℕ, ◌<◌, ◌≤◌, ◌^◌, List, [], ◌∷◌, ◌++◌, length, take, Bool as Truth, true, false}
use Rattle.byteorder.specs.Endian.{big_bytes}
use Rattle.fixed_code.specs.NumberCode.{FitsBytes, number_code}
use Rattle.pk_values.specs.declared.cells.Kind.{Kind}
use Rattle.pk_values.specs.declared.cells.Kind.TheVariants.{Boolean, TinyInt, SmallInt, Int, BigInt, LargeInt, Date, Varchar}
use Rattle.pk_values.specs.declared.cells.Value.{Value}
use Rattle.pk_values.specs.declared.cells.Value.TheVariants.{Null, Bool, Num, Day, Text}
use Rattle.pk_values.specs.declared.cells.Column.{Column}
use Rattle.pk_values.specs.Shapes.{IsDay, IsFlag, IsNumber, IsText}

-- a number in two bytes, the high one first
abbrev pub u16_bytes : ℕ → List ℕ
u16_bytes n = big_bytes 2 n

abbrev pub flag_bytes : Value → List ℕ
flag_bytes (Bool false) = 0 ∷ []
flag_bytes (Bool true) = 1 ∷ []
flag_bytes _ = []

abbrev pub number_bytes : ℕ → Value → List ℕ
number_bytes w (Num z) = number_code w z
number_bytes w _ = []

abbrev pub day_bytes : Value → List ℕ
day_bytes (Day z) = number_code 4 z
day_bytes _ = []

-- the length of a text and the text
abbrev pub text_bytes : Value → List ℕ
text_bytes (Text t) = u16_bytes (length t) ++ t
text_bytes _ = []

-- the bytes of a value; NULL has none
abbrev pub value_bytes : Kind → Value → List ℕ
value_bytes Boolean v = flag_bytes v
value_bytes TinyInt v = number_bytes 1 v
value_bytes SmallInt v = number_bytes 2 v
value_bytes Int v = number_bytes 4 v
value_bytes BigInt v = number_bytes 8 v
value_bytes LargeInt v = number_bytes 16 v
value_bytes Date v = day_bytes v
value_bytes (Varchar n) v = text_bytes v

-- whether there is a value, in a column that takes NULL
abbrev pub null_mark : Truth → Value → List ℕ
null_mark false v = []
null_mark true Null = 0 ∷ []
null_mark true (Bool b) = 1 ∷ []
null_mark true (Num z) = 1 ∷ []
null_mark true (Day z) = 1 ∷ []
null_mark true (Text t) = 1 ∷ []

-- the bytes of a cell
abbrev pub cell_bytes : Column → Value → List ℕ
cell_bytes c v = null_mark c.nullable v ++ value_bytes c.kind v

-- ---- values of a type, whose bytes can be told apart

-- a text whose length has two bytes
abbrev pub IsShort : List ℕ → Type 0
IsShort t = length t < 2 ^ 16

abbrev pub HasShape : Kind → Value → Type 0
HasShape Boolean v = IsFlag v
HasShape TinyInt v = IsNumber (FitsBytes 1) v
HasShape SmallInt v = IsNumber (FitsBytes 2) v
HasShape Int v = IsNumber (FitsBytes 4) v
HasShape BigInt v = IsNumber (FitsBytes 8) v
HasShape LargeInt v = IsNumber (FitsBytes 16) v
HasShape Date v = IsDay (FitsBytes 4) v
HasShape (Varchar n) v = IsText IsShort v

-- the code of a value is so many bytes at the front
pub record StandsFirst (code : Value → List ℕ) (value : Value) (len : ℕ) (bytes : List ℕ) : Type 0 where
  pub within : len ≤ length bytes
  pub front : take len bytes ≡ code value

-- no code of such a value stands at the front
abbrev pub NoneFirst : (Value → Type 0) → (Value → List ℕ) → List ℕ → Type 0
NoneFirst IsOne code bytes = (v : Value) (rest : List ℕ) → IsOne v → code v ++ rest ≡ bytes → ⊥
