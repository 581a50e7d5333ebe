-- What contracts see of a cursor.
use Rattle.std.specs.Prelude.{◌≡◌, ℕ, zero, suc, List, [], ◌∷◌, Option, Some, None, All, IsTrue}
use Rattle.std.specs.List.{AllByRecursion}
use Rattle.pk_values.specs.Schemas.{Layout, fits_row}
use Rattle.pk_values.specs.declared.cells.Value.{Value}
use Rattle.row_merge.specs.Merge.{head_of}

-- the rows at hand, and the block that comes behind them
pub record CursorView : Type 0 where
  pub rows : List (List Value)
  pub ahead : Option ℕ

-- the block that has to be read before the next row can be told
abbrev pub due : CursorView → Option ℕ
due c = go c.rows c.ahead
  where
    go : List (List Value) → Option ℕ → Option ℕ
    go [] ahead = ahead
    go (row ∷ rows) ahead = None

-- the first row at hand of the cursor in a place
abbrev pub front_at : List CursorView → ℕ → Option (List Value)
front_at [] i = None
front_at (c ∷ cs) zero = head_of c.rows
front_at (c ∷ cs) (suc i) = front_at cs i

-- the rows at hand fit the table
abbrev pub Fit : Layout → CursorView → Type 0
Fit s c = All (λ row. IsTrue (fits_row s row)) c.rows

abbrev pub AllFit : Layout → List CursorView → Type 0
AllFit s cursors = AllByRecursion (Fit s) cursors
