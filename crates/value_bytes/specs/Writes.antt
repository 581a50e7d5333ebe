-- What a writer of a field leaves.
use Rattle.std.specs.Prelude.{◌≡◌, ℕ, List, length, take}

-- what stood in the buffer stays at its front
abbrev pub KeepsFront : List ℕ → List ℕ → Type 0
KeepsFront old new = take (length old) new ≡ old
