-- What stands from a place on.
use Rattle.std.proofs.Common.{◌≡◌, ℕ, ◌+◌, ◌≤◌, List, length, drop, ap, arith}
use Rattle.std.specs.List.{between}
use Rattle.std.proofs.lemmas.List.{length-drop}
use Rattle.std.proofs.lemmas.Slice.{between_to_end}

pub to_end : {X : Type 0} (xs : List X) (at : ℕ) → between at (length xs) xs ≡ drop at xs
to_end xs at = between_to_end xs at (length xs) (omega arith)

-- what is within the piece from a place on is within the whole
pub ends_within : (xs piece : List ℕ) (at n : ℕ) → at ≤ length xs → piece ≡ drop at xs → n ≤ length piece → at + n ≤ length xs
ends_within xs piece at n le e few =
    let long : length piece ≡ length (drop at xs) = ap length e in
    let rest = length-drop at xs in
    omega arith
