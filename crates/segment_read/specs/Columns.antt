-- The rows of a block as its pages give them, column by column.
use Rattle.std.specs.Prelude.{◌≡◌, ℕ, ◌≤◌, List, [], ◌∷◌, ◌++◌, length, map, take, drop, All, IsTrue}
use Rattle.pk_values.specs.Fits.{fits_all}
use Rattle.pk_values.specs.declared.cells.Value.{Value}
use Rattle.pk_values.specs.declared.cells.Column.{Column}
use Rattle.column_page.specs.declared.footers.ColumnMark.{ColumnMark}
use Rattle.segment_form.specs.Segments.{marks_of, pages}

-- each row with one cell more behind it
abbrev pub with_column : List (List Value) → List Value → List (List Value)
with_column [] vs = []
with_column (r ∷ rs) [] = r ∷ rs
with_column (r ∷ rs) (v ∷ vs) = (r ++ v ∷ []) ∷ with_column rs vs

-- so many rows, 1 to 1,024, that have these marks and whose pages are these bytes
pub record AreRowsOf (columns : List Column) (count : ℕ) (marks : List ColumnMark) (body : List ℕ) (rows : List (List Value)) : Type 0 where
  pub fit : All (λ row. IsTrue (fits_all columns row)) rows
  pub number : length rows ≡ count
  pub some : 1 ≤ count
  pub few : count ≤ 1024
  pub marked : marks_of 0 columns rows ≡ marks
  pub written : pages 0 columns rows ≡ body

-- the first k cells of each row were read, and the pages and marks of the others are left
pub record HaveColumns (columns : List Column) (marks : List ColumnMark) (body : List ℕ) (read : List (List Value)) (k at : ℕ) (rows : List (List Value)) : Type 0 where
  pub front : read ≡ map (take k) rows
  pub back : drop at body ≡ pages k (drop k columns) rows
  pub marked : drop k marks ≡ marks_of k (drop k columns) rows
