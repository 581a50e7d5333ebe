-- A reader that tells its bytes tells their number.
use Rattle.std.specs.Prelude.{◌≡◌, ℕ, List, length, Some, Option}
use Rattle.std.proofs.Common.{ap}
use Rattle.std.specs.Option.{option_map_or}

pub size_told : (held bytes : List ℕ) → Some held ≡ Some bytes → length held ≡ length bytes
size_told held bytes is = ap (λ (o : Option (List ℕ)). option_map_or length o 0) is
