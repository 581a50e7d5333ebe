-- Where a text's bytes lie.
use Rattle.std.specs.Prelude.{ℕ, ◌≤◌, List, length}
use Rattle.pk_values.specs.declared.octets.Held.{Held}
use Rattle.pk_values.specs.declared.octets.Held.TheVariants.{InPlace, Apart}

-- the bytes of a text, in the value itself or in a vector of their own
abbrev pub bytes_held : Held → List ℕ
bytes_held (InPlace short) = short
bytes_held (Apart bytes) = bytes.value.items

-- a text this short lies in the value itself, and takes no memory
abbrev pub LiesInPlace : List ℕ → Type 0
LiesInPlace text = length text ≤ 22
