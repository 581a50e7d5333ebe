-- A call for the next row: what it gives, and what it reads.
use Rattle.std.proofs.Common.{◌≡◌, ap, sym, subst, ◌∙◌, inl, inr, ℕ, List, [], map, length, slice_get, Option, Some, None}
use Rattle.std.specs.FinMap.{values}
use Rattle.pk_values.specs.Schemas.{Layout}
use Rattle.pk_values.specs.declared.cells.Value.{Value}
use Rattle.pk_model.specs.Tables.{Rows}
use Rattle.dev_traits.specs.declared.faults.ReadFault.{ReadFault}
use Rattle.rowsets.specs.Scans.{AreRowsOf, listed, Piece, live_rows}
use Rattle.row_merge.specs.Cursors.{CursorView}
use Rattle.row_merge.specs.Merge.{merge_all}
use Rattle.snapshot_scan.specs.Scans.{AreToCome, Gives, IsDue, IsSettled, rows_left}
use Rattle.snapshot_scan.specs.Snapshots.{ArePieces, IsSnapshotOf, SnapshotView}
use Rattle.snapshot_scan.proofs.BeginFacts.{scan_begins}
use Rattle.snapshot_scan.proofs.LeftFacts.{pieces_long}
use Rattle.snapshot_scan.proofs.StepFacts.{same_place}

abbrev Row : Type 0
Row = List Value

-- the first row is given, and the others are to come
pub next_gives : (v now : SnapshotView) (cs mid new : List CursorView) (f g : Option ReadFault) (s : Layout) (row : Option Row) (rows : List Row)
    → ((pieces : List Piece) → ArePieces v.schema v.parts pieces → ArePieces now.schema now.parts pieces × (rows_left mid pieces ≡ rows_left cs pieces))
    → ((pieces : List Piece) → length pieces ≡ length mid → Gives row (merge_all s (rows_left mid pieces)) (λ rest. rest ≡ merge_all s (rows_left new pieces)))
    → length mid ≡ length v.parts → s ≡ now.schema → now.schema ≡ v.schema
    → AreToCome (record { snapshot = v; cursors = cs; fault = f }) rows → Gives row rows (AreToCome (record { snapshot = now; cursors = new; fault = g }))
next_gives v now cs mid new f g s row rows left gives long is schema come = go row (gives come.pieces (pieces_long v.schema v.parts come.pieces come.told ∙ sym long))
  where
    is_merged : rows ≡ merge_all s (rows_left mid come.pieces)
    is_merged = come.merged ∙ ap (λ l. merge_all l (rows_left cs come.pieces)) (sym (is ∙ schema)) ∙ ap (merge_all s) (sym (left come.pieces come.told).1)

    then_come : (rest : List Row) → rest ≡ merge_all s (rows_left new come.pieces) → AreToCome (record { snapshot = now; cursors = new; fault = g }) rest
    then_come rest e = record { pieces = come.pieces; told = (left come.pieces come.told).0; merged = e ∙ ap (λ l. merge_all l (rows_left new come.pieces)) is }

    go : (row : Option Row) → Gives row (merge_all s (rows_left mid come.pieces)) (λ rest. rest ≡ merge_all s (rows_left new come.pieces)) → Gives row rows (AreToCome (record { snapshot = now; cursors = new; fault = g }))
    go None h = (is_merged ∙ h.0, then_come [] h.1)
    go (Some r) h = (h.0, is_merged ∙ h.1, then_come h.0 h.2)

-- the same rows are to come
pub still_come : (v now : SnapshotView) (cs new : List CursorView) (f g : Option ReadFault) (rows : List Row)
    → ((pieces : List Piece) → ArePieces v.schema v.parts pieces → ArePieces now.schema now.parts pieces × (rows_left new pieces ≡ rows_left cs pieces)) → now.schema ≡ v.schema
    → AreToCome (record { snapshot = v; cursors = cs; fault = f }) rows → AreToCome (record { snapshot = now; cursors = new; fault = g }) rows
still_come v now cs new f g rows left schema come = record {
  pieces = come.pieces;
  told = (left come.pieces come.told).0;
  merged = come.merged ∙ ap (λ l. merge_all l (rows_left cs come.pieces)) (sym schema) ∙ ap (merge_all now.schema) (sym (left come.pieces come.told).1);
}

-- no row is to come where there is no cursor
pub none_come : (v : SnapshotView) (cs : List CursorView) (f : Option ReadFault) (rows : List Row) → cs ≡ [] → AreToCome (record { snapshot = v; cursors = cs; fault = f }) rows → rows ≡ []
none_come v cs f rows none come = come.merged ∙ ap (λ ds. merge_all v.schema (rows_left ds come.pieces)) none

-- a block that is due is one of the part that gave the last row
pub due_last : (cs : List CursorView) (last : ℕ) (P : ℕ → ℕ → Type 0) → ((i : ℕ) → (i ≡ last → ⊥) → IsSettled cs i) → ((b : ℕ) → IsDue cs last b → P last b) → (i b : ℕ) → IsDue cs i b → P i b
due_last cs last P settled reads i b due = elim (same_place i last) [
  | inl g ↦ subst (λ k. P k b) (sym g) (reads b (ap (slice_get cs) (sym g) ∙ due))
  | inr g ↦ absurd (settled i g b due)
]

-- all rows of the map come
pub all_come : (v now : SnapshotView) (cs : List CursorView) (f : Option ReadFault) (m : Rows)
    → ((pieces : List Piece) → ArePieces v.schema v.parts pieces → ArePieces now.schema now.parts pieces × (rows_left cs pieces ≡ map live_rows pieces)) → now.schema ≡ v.schema
    → IsSnapshotOf v m → AreToCome (record { snapshot = now; cursors = cs; fault = f }) (values m)
all_come v now cs f m left schema stands = record {
  pieces = stands.pieces;
  told = (left stands.pieces stands.told).0;
  merged = scan_begins v.schema v.parts stands.pieces m stands.told stands.rows ∙ ap (λ l. merge_all l (map live_rows stands.pieces)) (sym schema) ∙ ap (merge_all now.schema) (sym (left stands.pieces stands.told).1);
}

-- a snapshot whose readers tell the same files stands for the same map
pub still_stands : (v now : SnapshotView) (m : Rows) → ((pieces : List Piece) → ArePieces v.schema v.parts pieces → ArePieces now.schema now.parts pieces) → now.schema ≡ v.schema
    → IsSnapshotOf v m → IsSnapshotOf now m
still_stands v now m still schema stands = record {
  pieces = stands.pieces;
  told = still stands.pieces stands.told;
  rows = subst (λ s. AreRowsOf s (listed stands.pieces) m) (sym schema) stands.rows;
}
