-- A scan begins with all rows of the map to come.
use Rattle.std.proofs.Common.{◌≡◌, refl, ap, sym, subst, ℕ, ◌+◌, List, [], ◌∷◌, ◌++◌, map, Bool, true, false, cond, ◌==◌, IsTrue}
use Rattle.std.specs.List.{AllByRecursion, list_any}
use Rattle.std.specs.FinMap.{values}
use Rattle.pk_values.specs.Schemas.{Layout}
use Rattle.pk_values.specs.declared.cells.Value.{Value}
use Rattle.pk_model.specs.Tables.{Rows}
use Rattle.segment_form.specs.Segments.{KeysRise}
use Rattle.rowsets.specs.Scans.{AreRowsOf, Piece, RowsRise, alive, listed, live_rows}
use Rattle.row_merge.specs.Merge.{below, merge_all}
use Rattle.row_merge.specs.Unions.{joined}
use Rattle.row_merge.proofs.OrderFacts.{below_both}
use Rattle.row_merge.proofs.UnionFacts.{merge_gives_map}
use Rattle.snapshot_scan.specs.Parts.{PartView}
use Rattle.snapshot_scan.specs.Snapshots.{ArePieces}

abbrev Row : Type 0
Row = List Value

rise_on : (s : Layout) (z x : Row) (xs : List Row) → IsTrue (below s z x) → RowsRise s (x ∷ xs) → RowsRise s (z ∷ xs)
rise_on s z x [] lt rise = tt
rise_on s z x (y ∷ xs) lt rise = (below_both s z x y lt rise.0, rise.1)

tail_rises : (s : Layout) (x : Row) (xs : List Row) → RowsRise s (x ∷ xs) → RowsRise s xs
tail_rises s x [] rise = tt
tail_rises s x (y ∷ xs) rise = rise.1

alive_behind : (s : Layout) (dead : List ℕ) (i : ℕ) (z : Row) (xs : List Row) → RowsRise s (z ∷ xs) → RowsRise s (z ∷ alive dead i xs)
alive_behind s dead i z [] rise = tt
alive_behind s dead i z (x ∷ xs) rise = go (list_any (λ r. r == i) dead) (alive_behind s dead (i + 1) z xs (rise_on s z x xs rise.0 rise.1)) (alive_behind s dead (i + 1) x xs rise.1)
  where
    go : (b : Bool) → RowsRise s (z ∷ alive dead (i + 1) xs) → RowsRise s (x ∷ alive dead (i + 1) xs) → RowsRise s (z ∷ cond b (alive dead (i + 1) xs) (x ∷ alive dead (i + 1) xs))
    go true without both = without
    go false without both = (rise.0, both)

alive_rises : (s : Layout) (dead : List ℕ) (i : ℕ) (xs : List Row) → RowsRise s xs → RowsRise s (alive dead i xs)
alive_rises s dead i [] rise = tt
alive_rises s dead i (x ∷ xs) rise = go (list_any (λ r. r == i) dead) (alive_rises s dead (i + 1) xs (tail_rises s x xs rise))
  where
    go : (b : Bool) → RowsRise s (alive dead (i + 1) xs) → RowsRise s (cond b (alive dead (i + 1) xs) (x ∷ alive dead (i + 1) xs))
    go true more = more
    go false more = alive_behind s dead (i + 1) x xs rise

rows_rise : (s : Layout) (rows : List Row) → KeysRise s rows → RowsRise s rows
rows_rise s [] h = tt
rows_rise s (a ∷ []) h = tt
rows_rise s (a ∷ b ∷ rows) h = (h.0, rows_rise s (b ∷ rows) h.1)

pieces_rise : (s : Layout) (parts : List PartView) (pieces : List Piece) → ArePieces s parts pieces → AllByRecursion (RowsRise s) (map live_rows pieces)
pieces_rise s [] [] told = tt
pieces_rise s [] (piece ∷ pieces) told = absurd told
pieces_rise s (x ∷ parts) [] told = absurd told
pieces_rise s (x ∷ parts) (piece ∷ pieces) told = (alive_rises s piece.dead 0 piece.rows (rows_rise s piece.rows told.0.is.are.rise), pieces_rise s parts pieces told.1)

all_joined : (pieces : List Piece) → joined (map live_rows pieces) ≡ listed pieces
all_joined [] = refl
all_joined (piece ∷ pieces) = ap (λ xs. live_rows piece ++ xs) (all_joined pieces)

pub scan_begins : (s : Layout) (parts : List PartView) (pieces : List Piece) (m : Rows) → ArePieces s parts pieces → AreRowsOf s (listed pieces) m → values m ≡ merge_all s (map live_rows pieces)
scan_begins s parts pieces m told are = sym (merge_gives_map s (map live_rows pieces) m (pieces_rise s parts pieces told) (subst (λ all. AreRowsOf s all m) (sym (all_joined pieces)) are))
