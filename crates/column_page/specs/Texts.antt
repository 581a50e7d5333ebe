-- The bytes of cells, and the pieces of a text that are lent.
use Rattle.std.specs.Prelude.{◌≡◌, ℕ, ◌≤◌, List, [], length, map}
use Rattle.std.specs.List.{concat}
use Rattle.std.specs.Borrow.{Bor}
use Rattle.column_page.specs.Page.{Cell, distinct_after, places as places_among}

-- the texts behind references
abbrev pub lent : List (Bor Cell) → List Cell
lent texts = map (λ t. t.now) texts

-- these cells one after the other, and how long each is
pub record AreTexts (bytes : List ℕ) (lens : List ℕ) (cells : List Cell) : Type 0 where
  pub joined : bytes ≡ concat cells
  pub long : lens ≡ map length cells

-- there are such cells
pub record HaveTexts (bytes : List ℕ) (lens : List ℕ) : Type 0 where
  pub cells : List Cell
  pub are : AreTexts bytes lens cells

-- the different cells, the place of each cell among them, and no more than the words' bytes
pub record Knows (keys : List (Bor Cell)) (places : List ℕ) (len : ℕ) (cells : List Cell) : Type 0 where
  pub words : lent keys ≡ distinct_after [] cells
  pub placed : places ≡ places_among (distinct_after [] cells) cells
  pub within : len ≤ length (concat (distinct_after [] cells))
