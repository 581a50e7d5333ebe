-- Which bytes are the code of a key.
use Rattle.std.specs.Prelude.{◌≡◌, ℕ, List, [], ◌∷◌, IsTrue, true}
use Rattle.pk_values.specs.declared.cells.Value.{Value}
use Rattle.pk_values.specs.declared.cells.Column.{Column}
use Rattle.pk_values.specs.Fits.{fits_kind}
use Rattle.pk_values.specs.Schemas.{Layout, fits_key}
use Rattle.key_code.specs.KeyCode.{cells_code, key_code}

-- the key fits the schema, and this is its code
abbrev pub IsKeyOf : Layout → List ℕ → List Value → Type 0
IsKeyOf s code key = IsTrue (fits_key s key) × (key_code s key ≡ code)

-- no key that fits the schema has this code
abbrev pub IsNoKey : Layout → List ℕ → Type 0
IsNoKey s code = (key : List Value) → IsTrue (fits_key s key) → key_code s key ≡ code → ⊥

-- one value of its type for each column
abbrev pub AreOfKinds : List Column → List Value → Type 0
AreOfKinds [] [] = Unit {0}
AreOfKinds [] (v ∷ vs) = ⊥
AreOfKinds (c ∷ cs) [] = ⊥
AreOfKinds (c ∷ cs) (v ∷ vs) = (fits_kind c.kind v ≡ true) × AreOfKinds cs vs

-- such values with this code
abbrev pub AreCells : List Column → List ℕ → List Value → Type 0
AreCells cs code vs = AreOfKinds cs vs × (cells_code cs vs ≡ code)

abbrev pub HaveNoCells : List Column → List ℕ → Type 0
HaveNoCells cs code = (vs : List Value) → AreCells cs code vs → ⊥
