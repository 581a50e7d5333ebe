use Rattle.std.proofs.Common.{◌≡◌, ◌+◌, ◌++◌, arith, sym, subst, slice_get}
use Rattle.rowsets.specs.Scans.{Piece, live_rows}
use Rattle.snapshot_scan.specs.Parts.{IsPieceOf}
use Rattle.snapshot_scan.specs.Scans.{IsCursor, rows_ahead}
use Rattle.snapshot_scan.proofs.FillFacts.{AreFirst, first_left, first_more}
use Rattle.snapshot_scan.proofs.LeftFacts.{get_there}
use Rattle.snapshot_scan.proofs.SnapFacts.{from_at}
use Rattle.snapshot_scan.proofs.feeds.first_cursors.Goals as goal

pub loop-i-preserved : goal.loop-i-preserved
loop-i-preserved g c =
    let test = c.loop-i-test.true in
    let count = c.segments-parts.ensures in
    let at = get_there c.args.snapshot.now.parts c.loop-i.i (omega arith) in
    subst (AreFirst c.args.snapshot.now (c.loop-i.i + 1)) (sym c.in_ok-push.ensures.items)
    (first_more c.args.snapshot.now c.loop-i.i c.loop-i.cursors.items c.first_cursor.result at.0 c.loop-i.invariant at.1
    (from_at (slice_get c.args.snapshot.now.parts c.loop-i.i) at.0 (λ part. IsCursor c.args.snapshot.now.schema part c.first_cursor.result) at.1 c.first_cursor.ensures.cursor)
    (from_at (slice_get c.args.snapshot.now.parts c.loop-i.i) at.0 (λ part. (piece : Piece) → IsPieceOf c.args.snapshot.now.schema part piece → c.first_cursor.result.rows ++ rows_ahead c.first_cursor.result.ahead piece ≡ live_rows piece) at.1 c.first_cursor.ensures.rows))

pub returns-clause-left : goal.returns-clause-left
returns-clause-left g c =
    let test = c.loop-i-test.false in
    let most = c.loop-i.auto.i-end in
    let count = c.segments-parts.ensures in
    first_left c.args.snapshot.now c.loop-i.i c.loop-i.cursors.items c.loop-i.invariant (omega arith)
