-- What a refused key tells.
use Rattle.std.specs.Prelude.{◌≡◌, ℕ, ◌<◌, ⊤}
use Rattle.key_code.specs.declared.faults.KeyFault.{KeyFault}
use Rattle.key_code.specs.declared.faults.KeyFault.TheVariants.{TooLong, Memory}

-- a code is too long where it has more than 128 bytes
abbrev pub TellsLength : ℕ → KeyFault → Type 0
TellsLength len (TooLong n) = (n ≡ len) × (128 < len)
TellsLength len Memory = ⊤
