-- What a reader of a field finds at the front of bytes.
use Rattle.std.specs.Prelude.{◌≡◌, ℕ, List, ◌++◌, All}
use Rattle.std.specs.List.{flat_map}
use Rattle.value_bytes.specs.Fields.{Field}

-- the value stands at the front, and this is what follows it
pub record Reads {X : Type 0} (f : Field X) (bytes : List ℕ) (x : X) (rest : List ℕ) : Type 0 where
  pub fits : f.fits x
  pub spelled : f.bytes x ++ rest ≡ bytes

-- no value stands at the front
abbrev pub NotRead : {X : Type 0} → Field X → List ℕ → Type 0
NotRead {X} f bytes = (x : X) (rest : List ℕ) → f.fits x → f.bytes x ++ rest ≡ bytes → ⊥

-- so many values were read, and this is left
pub record HasRead {X : Type 0} (f : Field X) (bytes : List ℕ) (xs : List X) (left : List ℕ) : Type 0 where
  pub fits : All f.fits xs
  pub spelled : flat_map f.bytes xs ++ left ≡ bytes

-- the bytes are the value's
pub record IsWhole {X : Type 0} (f : Field X) (bytes : List ℕ) (x : X) : Type 0 where
  pub fits : f.fits x
  pub spelled : f.bytes x ≡ bytes

-- the bytes are no value's
abbrev pub NotWhole : {X : Type 0} → Field X → List ℕ → Type 0
NotWhole {X} f bytes = (x : X) → IsWhole f bytes x → ⊥
