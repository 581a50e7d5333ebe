use Rattle.std.proofs.Common.{◌≡◌, ◌<◌, ◌++◌, sym, subst, map, length, slice_get, IfSome}
use Rattle.rowsets.specs.Scans.{Piece, live_rows}
use Rattle.snapshot_scan.specs.Parts.{IsPieceOf, seen}
use Rattle.snapshot_scan.specs.Scans.{IsCursor, rows_ahead}
use Rattle.snapshot_scan.specs.Snapshots.{SnapshotView}
use Rattle.snapshot_scan.proofs.SnapFacts.{if_at, part_at}
use Rattle.snapshot_scan.proofs.snapshots.Snapshot.first_cursor.Goals as goal

pub returns-clause-cursor : goal.returns-clause-cursor
returns-clause-cursor g c =
    subst (λ (v : SnapshotView). IfSome (slice_get v.parts c.args.i) (λ part. IsCursor v.schema part c.first_cursor.result)) c.self.view_is
    (if_at (slice_get (map (seen g.R.SealedReader.view) c.self.inside.parts.items) c.args.i) (seen g.R.SealedReader.view c.index.result.now) (λ part. IsCursor c.self.inside.schema part c.first_cursor.result)
    (part_at g.R.SealedReader.view c.self.inside.parts.items c.args.i c.index.result.now (subst (λ (v : SnapshotView). c.args.i < length v.parts) (sym c.self.view_is) c.requires) c.index.ensures)
    (c.first_cursor.ensures.cursor c.self.inside.schema))

pub returns-clause-rows : goal.returns-clause-rows
returns-clause-rows g c =
    subst (λ (v : SnapshotView). IfSome (slice_get v.parts c.args.i) (λ part. (piece : Piece) → IsPieceOf v.schema part piece → c.first_cursor.result.rows ++ rows_ahead c.first_cursor.result.ahead piece ≡ live_rows piece)) c.self.view_is
    (if_at (slice_get (map (seen g.R.SealedReader.view) c.self.inside.parts.items) c.args.i) (seen g.R.SealedReader.view c.index.result.now)
    (λ part. (piece : Piece) → IsPieceOf c.self.inside.schema part piece → c.first_cursor.result.rows ++ rows_ahead c.first_cursor.result.ahead piece ≡ live_rows piece)
    (part_at g.R.SealedReader.view c.self.inside.parts.items c.args.i c.index.result.now (subst (λ (v : SnapshotView). c.args.i < length v.parts) (sym c.self.view_is) c.requires) c.index.ensures)
    (c.first_cursor.ensures.rows c.self.inside.schema))
