-- The first eight bytes of a code as a number.
use Rattle.std.specs.Prelude.{◌≡◌, ℕ, ◌<◌, IsTrue, List, None, slice_index}
use Rattle.std.specs.Cmp.Lexicographic.{slice_cmp}
use Rattle.std.specs.Ordering.{nat_cmp}
use Rattle.std.specs.declared.cmp.Ordering.TheVariants.{Less}
use Rattle.byteorder.specs.Endian.{big_number}
use Rattle.pk_values.specs.Order.{key_cmp}
use Rattle.pk_values.specs.Schemas.{Layout, fits_key, schema_fault}
use Rattle.pk_values.specs.declared.cells.Value.{Value}
use Rattle.key_code.specs.KeyCode.{key_code}

-- each number is a byte
abbrev pub AreBytes : List ℕ → Type 0
AreBytes code = (k : ℕ) → slice_index code k < 256

-- the number that the first eight bytes are, the high one first; where there are fewer, zero bytes stand behind them
abbrev pub prefix_of : List ℕ → ℕ
prefix_of code = big_number 8 code

-- of two codes, the one with the less prefix comes first
abbrev pub CodesByPrefix : Type 0
CodesByPrefix =
    (a b : List ℕ) → AreBytes a → AreBytes b → prefix_of a < prefix_of b → slice_cmp nat_cmp a b ≡ Less

-- of two keys of a table, the one whose code has the less prefix comes first
abbrev pub KeysByPrefix : Type 0
KeysByPrefix =
    (s : Layout) (a b : List Value) → schema_fault s.columns s.keys ≡ None → IsTrue (fits_key s a)
    → IsTrue (fits_key s b) → AreBytes (key_code s a) → AreBytes (key_code s b)
    → prefix_of (key_code s a) < prefix_of (key_code s b) → key_cmp a b ≡ Less
