-- The page of cells, where each cell is given as its bytes.
use Rattle.std.specs.Prelude.{◌≡◌, All, IsTrue, ⊤, ℕ, ◌+◌, nat_lt, if◌then◌else◌, Bool, true, false, List, [], ◌∷◌, ◌++◌, get_or, length, map}
use Rattle.std.specs.List.{concat, flat_map}
use Rattle.std.specs.Str.{bytes_eq}
use Rattle.pk_values.specs.Fits.{fits}
use Rattle.pk_values.specs.declared.cells.Value.{Value}
use Rattle.pk_values.specs.declared.cells.Value.TheVariants.{Null}
use Rattle.pk_values.specs.declared.cells.Column.{Column}
use Rattle.column_page.specs.CellBytes.{cell_bytes, u16_bytes}

abbrev pub Cell : Type 0
Cell = List ℕ

-- each cell, one after the other
abbrev pub plain : List Cell → List ℕ
plain cells = 0 ∷ concat cells

-- a length and a cell; the runs with one cell more at the front
abbrev pub put_run : Cell → List (ℕ × Cell) → List (ℕ × Cell)
put_run c [] = (1, c) ∷ []
put_run c (r ∷ rs) = if bytes_eq c r.1 then (r.0 + 1, c) ∷ rs else (1, c) ∷ r ∷ rs

-- the runs of equal cells, each as long as can be
abbrev pub runs : List Cell → List (ℕ × Cell)
runs [] = []
runs (c ∷ cells) = put_run c (runs cells)

abbrev pub run_bytes : ℕ × Cell → List ℕ
run_bytes r = u16_bytes r.0 ++ r.1

-- the number of runs, and each run's length and cell
abbrev pub run_length : List Cell → List ℕ
run_length cells = 1 ∷ u16_bytes (length (runs cells)) ++ flat_map run_bytes (runs cells)

abbrev pub is_among : Cell → List Cell → Bool
is_among c [] = false
is_among c (d ∷ ds) = if bytes_eq c d then true else is_among c ds

-- the words with a cell behind them, where it is a new one
abbrev pub with_word : Cell → List Cell → List Cell
with_word c words = if is_among c words then words else words ++ c ∷ []

-- the different cells after those that were seen, in the order of their first appearance
abbrev pub distinct_after : List Cell → List Cell → List Cell
distinct_after seen [] = seen
distinct_after seen (c ∷ cells) = distinct_after (with_word c seen) cells

-- where a cell stands among the words, from 0
abbrev pub place : Cell → List Cell → ℕ
place c [] = 0
place c (d ∷ ds) = if bytes_eq c d then 0 else place c ds + 1

-- the places of cells among the words
abbrev pub places : List Cell → List Cell → List ℕ
places words cells = flat_map (λ c. u16_bytes (place c words)) cells

-- the number of different cells, these cells, and each cell's place among them
abbrev pub dictionary : List Cell → List ℕ
dictionary cells =
    let words = distinct_after [] cells in
    2 ∷ u16_bytes (length words) ++ concat words ++ places words cells

-- the shorter of two texts, the first where they are equally long
abbrev pub shorter : List ℕ → List ℕ → List ℕ
shorter a b = if nat_lt (length b) (length a) then b else a

-- the shortest of the three forms; between equal lengths the earlier one
abbrev pub page : List Cell → List ℕ
page cells = shorter (shorter (plain cells) (run_length cells)) (dictionary cells)

-- the page of a column's cells
abbrev pub page_of : Column → List Value → List ℕ
page_of column cells = page (map (cell_bytes column) cells)

-- the cells of the column in place i
abbrev pub column_cells : ℕ → List (List Value) → List Value
column_cells i rows = map (λ row. get_or row i Null) rows

-- each cell fits the column
abbrev pub AllFit : Column → List Value → Type 0
AllFit column cells = All (λ v. IsTrue (fits column v)) cells

-- the first cell, if there is one, is another one than c
abbrev pub FirstDiffers : Cell → List Cell → Type 0
FirstDiffers c [] = ⊤
FirstDiffers c (d ∷ ds) = bytes_eq d c ≡ false
