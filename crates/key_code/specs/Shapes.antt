-- The values of each kind that have a code.
use Rattle.std.specs.Prelude.{⊤, List, [], ◌∷◌}
use Rattle.fixed_code.specs.NumberCode.{FitsBytes}
use Rattle.pk_values.specs.declared.cells.Kind.{Kind}
use Rattle.pk_values.specs.declared.cells.Kind.TheVariants as kind
use Rattle.pk_values.specs.declared.cells.Value.{Value}
use Rattle.pk_values.specs.declared.cells.Column.{Column}
use Rattle.pk_values.specs.Shapes.{IsDay, IsFlag, IsNumber, IsText}

-- a text of any bytes
abbrev pub IsAnyText : Value → Type 0
IsAnyText = IsText (λ t. ⊤)

-- the value has a code in the kind
abbrev pub HasCode : Kind → Value → Type 0
HasCode kind.Boolean v = IsFlag v
HasCode kind.TinyInt v = IsNumber (FitsBytes 1) v
HasCode kind.SmallInt v = IsNumber (FitsBytes 2) v
HasCode kind.Int v = IsNumber (FitsBytes 4) v
HasCode kind.BigInt v = IsNumber (FitsBytes 8) v
HasCode kind.LargeInt v = IsNumber (FitsBytes 16) v
HasCode kind.Date v = IsDay (FitsBytes 4) v
HasCode (kind.Varchar n) v = IsAnyText v

-- one such value for each column
abbrev pub HaveCodes : List Column → List Value → Type 0
HaveCodes [] [] = ⊤
HaveCodes [] (v ∷ vs) = ⊥
HaveCodes (c ∷ cs) [] = ⊥
HaveCodes (c ∷ cs) (v ∷ vs) = HasCode c.kind v × HaveCodes cs vs
