-- What a reader of pages finds: the only cells that can have written the bytes.
use Rattle.std.specs.Prelude.{◌≡◌, ℕ, ◌≤◌, List, ◌++◌, length, take, drop, map, All, IsTrue, replicate, slice_get, Some}
use Rattle.std.specs.List.{concat, flat_map}
use Rattle.pk_values.specs.Fits.{fits}
use Rattle.pk_values.specs.declared.cells.Value.{Value}
use Rattle.pk_values.specs.declared.cells.Column.{Column}
use Rattle.column_page.specs.CellBytes.{cell_bytes}
use Rattle.column_page.specs.Page.{AllFit, Cell, is_among, page_of, places, run_bytes}

-- so many cells of a column as a page may hold
pub record AreCells (column : Column) (count : ℕ) (cells : List Value) : Type 0 where
  pub fit : AllFit column cells
  pub number : length cells ≡ count
  pub some : 1 ≤ count
  pub few : count ≤ 1024

-- no other cells than these have the bytes
abbrev pub OnlyCells : Column → ℕ → (List Cell → List ℕ) → List ℕ → List Value → Type 0
OnlyCells column count form bytes found = (cells : List Value) → AreCells column count cells → form (map (cell_bytes column) cells) ≡ bytes → found ≡ cells

-- no cells have the bytes
abbrev pub NoCells : Column → ℕ → (List Cell → List ℕ) → List ℕ → Type 0
NoCells column count form bytes = (cells : List Value) → AreCells column count cells → form (map (cell_bytes column) cells) ≡ bytes → ⊥

-- the cell stands in a place of cells that have these bytes as their page
pub record IsCellAt (column : Column) (count : ℕ) (bytes : List ℕ) (place : ℕ) (cell : Value) : Type 0 where
  pub cells : List Value
  pub are : AreCells column count cells
  pub written : page_of column cells ≡ bytes
  pub at : slice_get cells place ≡ Some cell

-- these bytes are a cell of the column
pub record IsCellOf (column : Column) (cell : Cell) : Type 0 where
  pub value : Value
  pub fit : IsTrue (fits column value)
  pub code : cell_bytes column value ≡ cell

-- so many cells of the column, and what follows them
pub record CellsThen (column : Column) (count : ℕ) (bytes : List ℕ) (cells : List Cell) (rest : List ℕ) : Type 0 where
  pub fit : All (IsCellOf column) cells
  pub number : length cells ≡ count
  pub joined : concat cells ++ rest ≡ bytes

-- the first k of the cells were read, and the others with what follows them stand at a place
pub record HaveRead (column : Column) (values : List Value) (k at : ℕ) (bytes : List ℕ) (cells : List Cell) (rest : List ℕ) : Type 0 where
  pub front : map (cell_bytes column) values ≡ take k cells
  pub back : drop at bytes ≡ concat (drop k cells) ++ rest

abbrev pub expanded : List (ℕ × Cell) → List Cell
expanded rs = flat_map (λ r. replicate r.0 r.1) rs

-- so many runs, which stand for so many cells of the column
pub record RunsOf (column : Column) (total count : ℕ) (bytes : List ℕ) (rs : List (ℕ × Cell)) : Type 0 where
  pub fit : All (λ r. IsCellOf column r.1) rs
  pub number : length rs ≡ total
  pub cells : length (expanded rs) ≡ count
  pub few : count ≤ 1024
  pub joined : flat_map run_bytes rs ≡ bytes

pub record HaveRunOut (column : Column) (values : List Value) (k at : ℕ) (bytes : List ℕ) (rs : List (ℕ × Cell)) : Type 0 where
  pub front : map (cell_bytes column) values ≡ expanded (take k rs)
  pub back : drop at bytes ≡ flat_map run_bytes (drop k rs)

-- the places of so many cells among the words
pub record PlacesOf (words : List Cell) (count : ℕ) (bytes : List ℕ) (cells : List Cell) : Type 0 where
  pub among : All (λ c. IsTrue (is_among c words)) cells
  pub number : length cells ≡ count
  pub written : places words cells ≡ bytes

-- the first k of the cells were found, and the places of the others stand at a place
pub record HavePlaced (words : List Cell) (found : List Cell) (k at : ℕ) (bytes : List ℕ) (cells : List Cell) : Type 0 where
  pub front : found ≡ take k cells
  pub back : drop at bytes ≡ places words (drop k cells)
