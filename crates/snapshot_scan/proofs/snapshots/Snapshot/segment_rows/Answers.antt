use Rattle.std.proofs.Common.{◌≡◌, ◌<◌, sym, subst, map, length, slice_get, slice_set, IfOk, IfErr, IfSome}
use Rattle.segment_read.specs.Reads.{OnDamage, Reading}
use Rattle.segment_read.specs.Rows.{IsRowsDamage}
use Rattle.segment_read.proofs.Scanning.{if_ok_so}
use Rattle.rowsets.specs.Scans.{Piece, live_rows}
use Rattle.snapshot_scan.specs.Parts.{IsAllWhole, IsPieceOf, seen}
use Rattle.snapshot_scan.specs.Snapshots.{ReadsPart, SnapshotView}
use Rattle.snapshot_scan.proofs.SnapFacts.{if_at, if_err_so, part_at, part_is, parts_are, reads_part}
use Rattle.snapshot_scan.proofs.snapshots.Snapshot.segment_rows.Goals as goal

pub live_part-requires : goal.live_part-requires
live_part-requires g c =
    record {
      part = part_is g.R.SealedReader.view c.self.inside.parts.items c.args.i c.index_mut.result.now
          (subst (λ (v : SnapshotView). c.args.i < length v.parts) (sym c.self.view_is) c.requires) c.index_mut.ensures.value c.self.inside.schema c.self.invariant;
    }

pub invariant_of-self : goal.invariant_of-self
invariant_of-self g c =
    parts_are g.R.SealedReader.view c.self.inside.parts.items c.args.i c.index_mut.result.now
    (subst (λ (v : SnapshotView). c.args.i < length v.parts) (sym c.self.view_is) c.requires) c.index_mut.ensures.value c.self.inside.schema c.live_part.new.part c.self.invariant c.live_part.ensures.part

pub returns-clause-live : goal.returns-clause-live
returns-clause-live g c =
    subst (λ (v : SnapshotView). IfOk c.live_part.result (λ live. IfSome (slice_get v.parts c.args.i) (λ part. (piece : Piece) → IsPieceOf v.schema part piece → live.items ≡ live_rows piece))) c.self.view_is
    (if_ok_so c.live_part.result _ _ (λ live are. if_at (slice_get (map (seen g.R.SealedReader.view) c.self.inside.parts.items) c.args.i) (seen g.R.SealedReader.view c.index_mut.result.now) (λ part. (piece : Piece) → IsPieceOf c.self.inside.schema part piece → live.items ≡ live_rows piece) (part_at g.R.SealedReader.view c.self.inside.parts.items c.args.i c.index_mut.result.now
    (subst (λ (v : SnapshotView). c.args.i < length v.parts) (sym c.self.view_is) c.requires) c.index_mut.ensures.value) are) c.live_part.ensures.live)

pub returns-clause-whole : goal.returns-clause-whole
returns-clause-whole g c =
    subst (λ (v : SnapshotView). IfOk c.live_part.result (λ _. IfSome (slice_get v.parts c.args.i) (λ part. IsAllWhole v.schema part))) c.self.view_is
    (if_ok_so c.live_part.result _ _ (λ live are. if_at (slice_get (map (seen g.R.SealedReader.view) c.self.inside.parts.items) c.args.i) (seen g.R.SealedReader.view c.index_mut.result.now) (λ part. IsAllWhole c.self.inside.schema part) (part_at g.R.SealedReader.view c.self.inside.parts.items c.args.i c.index_mut.result.now
    (subst (λ (v : SnapshotView). c.args.i < length v.parts) (sym c.self.view_is) c.requires) c.index_mut.ensures.value) are) c.live_part.ensures.whole)

pub returns-clause-damaged : goal.returns-clause-damaged
returns-clause-damaged g c =
    subst (λ (v : SnapshotView). IfErr c.live_part.result (λ e. IfSome (slice_get v.parts c.args.i) (λ part. OnDamage e (IsRowsDamage v.schema part.footer part.number part.reader)))) c.self.view_is
    (if_err_so c.live_part.result _ _ (λ e are. if_at (slice_get (map (seen g.R.SealedReader.view) c.self.inside.parts.items) c.args.i) (seen g.R.SealedReader.view c.index_mut.result.now) (λ part. OnDamage e (IsRowsDamage c.self.inside.schema part.footer part.number part.reader)) (part_at g.R.SealedReader.view c.self.inside.parts.items c.args.i c.index_mut.result.now
    (subst (λ (v : SnapshotView). c.args.i < length v.parts) (sym c.self.view_is) c.requires) c.index_mut.ensures.value) are) c.live_part.ensures.damaged)

pub returns-clause-intact : goal.returns-clause-intact
returns-clause-intact g c =
    subst (λ (v : SnapshotView). IfErr c.live_part.result (λ e. IfSome (slice_get v.parts c.args.i) (λ part. OnDamage e (λ damaged. (piece : Piece) → IsPieceOf v.schema part piece → ⊥)))) c.self.view_is
    (if_err_so c.live_part.result _ _ (λ e are. if_at (slice_get (map (seen g.R.SealedReader.view) c.self.inside.parts.items) c.args.i) (seen g.R.SealedReader.view c.index_mut.result.now) (λ part. OnDamage e (λ damaged. (piece : Piece) → IsPieceOf c.self.inside.schema part piece → ⊥)) (part_at g.R.SealedReader.view c.self.inside.parts.items c.args.i c.index_mut.result.now
    (subst (λ (v : SnapshotView). c.args.i < length v.parts) (sym c.self.view_is) c.requires) c.index_mut.ensures.value) are) c.live_part.ensures.intact)

pub returns-clause-reading : goal.returns-clause-reading
returns-clause-reading g c =
    subst (λ (v : SnapshotView). ReadsPart c.args.i v.parts (map (seen g.R.SealedReader.view) (slice_set c.self.inside.parts.items c.args.i c.live_part.new.part)) (λ part reader. Reading (length part.footer.blocks) part.reader reader c.live_part.result)) c.self.view_is
    (reads_part g.R.SealedReader.view c.self.inside.parts.items c.args.i c.index_mut.result.now
    (subst (λ (v : SnapshotView). c.args.i < length v.parts) (sym c.self.view_is) c.requires) c.index_mut.ensures.value c.live_part.new.part (λ part reader. Reading (length part.footer.blocks) part.reader reader c.live_part.result) c.live_part.ensures.kept c.live_part.ensures.reading)
