-- Keys as numbers of 64 bits, by which they are sorted first.
use Rattle.std.specs.Prelude.{ℕ, ◌&&◌, nat_le, length, if◌then◌else◌, List}
use Rattle.key_code.specs.KeyCode.{key_code}
use Rattle.key_code.specs.Prefixes.{prefix_of}
use Rattle.pk_values.specs.Schemas.{Layout, fits_key}
use Rattle.pk_values.specs.declared.cells.Value.{Value}
use Rattle.pk_model.specs.Lawful.{most_code_bytes}

-- the first eight bytes of a key's code, where the key fits and its code is short enough
abbrev pub key_number : Layout → List Value → ℕ
key_number s key =
    if fits_key s key && nat_le (length (key_code s key)) most_code_bytes then prefix_of (key_code s key) else 0
