-- What stands at the front of a code.
use Rattle.std.specs.Prelude.{◌≡◌, ℕ, ◌≤◌, Bool as Truth, true, List, [], ◌++◌, length, drop, Option, Some, None}
use Rattle.pk_values.specs.declared.cells.Kind.{Kind}
use Rattle.pk_values.specs.declared.cells.Value.{Value}
use Rattle.pk_values.specs.Fits.{fits_kind}
use Rattle.key_code.specs.KeyCode.{cell_code}
use Rattle.key_code.specs.Shapes.{IsAnyText}

-- the value whose code stands at the front of the bytes, and how many bytes it takes; nothing where no code stands
-- there
abbrev pub IsFront : (Value → Type 0) → (Value → List ℕ) → List ℕ → Option (Value × ℕ) → Type 0
IsFront HasCode code bytes (Some p) = HasCode p.0 × (bytes ≡ code p.0 ++ drop p.1 bytes) × (p.1 ≤ length bytes)
IsFront HasCode code bytes None = (v : Value) (more : List ℕ) → HasCode v → bytes ≡ code v ++ more → ⊥

-- a text that ends the key takes all the bytes
abbrev pub EndsText : Truth → List ℕ → (Value × ℕ) → Type 0
EndsText last bytes p = last ≡ true → IsAnyText p.0 → drop p.1 bytes ≡ []

-- the bytes begin with the code of a value of this kind, and end with it where a key ends there
abbrev pub BeginsWith : Truth → Kind → List ℕ → Value → List ℕ → Type 0
BeginsWith last kind bytes v more =
    (fits_kind kind v ≡ true) × (last ≡ true → more ≡ []) × (bytes ≡ cell_code last kind v ++ more)

-- the one cell that the bytes begin with, and how many bytes it takes; nothing where there is none
abbrev pub IsCell : Truth → Kind → List ℕ → Option (Value × ℕ) → Type 0
IsCell last kind bytes (Some p) =
    (fits_kind kind p.0 ≡ true) × (bytes ≡ cell_code last kind p.0 ++ drop p.1 bytes) × (p.1 ≤ length bytes)
    × ((v : Value) (more : List ℕ) → BeginsWith last kind bytes v more → (v ≡ p.0) × (more ≡ drop p.1 bytes))
IsCell last kind bytes None = (v : Value) (more : List ℕ) → BeginsWith last kind bytes v more → ⊥
