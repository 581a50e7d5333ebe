use Rattle.std.proofs.Common.{◌≡◌, ◌<◌, ◌≤◌, ℕ, List, length}
use Rattle.rowsets.specs.Scans.{Piece}
use Rattle.snapshot_scan.specs.Scans.{AreCursors, IsSettled, reads_in_all, rows_left}
use Rattle.snapshot_scan.specs.Snapshots.{ArePieces}
use Rattle.snapshot_scan.proofs.FillFacts.{FilledTo}
use Rattle.snapshot_scan.proofs.feeds.fill.Given as goal

abbrev pub invariant-loop-i : goal.invariant-loop-i
invariant-loop-i g l = record {
  are : AreCursors l.snapshot l.cursors.items;
  long : length l.cursors.items ≡ length l.fn.cursors.items;
  settled : (j : ℕ) → j < l.i → IsSettled l.cursors.items j;
  left : (pieces : List Piece) → ArePieces l.fn.snapshot.schema l.fn.snapshot.parts pieces → ArePieces l.snapshot.schema l.snapshot.parts pieces × (rows_left l.cursors.items pieces ≡ rows_left l.fn.cursors.items pieces);
  filled : FilledTo l.i l.fn.snapshot.parts l.snapshot.parts;
  once : reads_in_all l.snapshot.parts l.cursors.items ≤ reads_in_all l.fn.snapshot.parts l.fn.cursors.items;
  version : l.snapshot.version ≡ l.fn.snapshot.version;
  schema : l.snapshot.schema ≡ l.fn.snapshot.schema;
}
