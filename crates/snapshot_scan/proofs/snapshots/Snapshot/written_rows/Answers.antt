use Rattle.std.proofs.Common.{◌≡◌, ◌<◌, All, sym, subst, map, length, slice_get, slice_set, IfOk, IfErr, IfSome, IsTrue}
use Rattle.pk_values.specs.Schemas.{fits_row}
use Rattle.dev_traits.specs.declared.faults.Part.TheVariants as place
use Rattle.segment_read.specs.Blocks.{BlockShown}
use Rattle.segment_read.specs.Reads.{block_in, IsDamage, OfBlock, OfFile, OnDamage, Reading}
use Rattle.segment_read.proofs.Scanning.{if_ok_so}
use Rattle.rowsets.specs.Scans.{Piece}
use Rattle.snapshot_scan.specs.Parts.{IsBlockOf, IsPieceOf, block_at, seen}
use Rattle.snapshot_scan.specs.Snapshots.{ReadsPart, SnapshotView}
use Rattle.snapshot_scan.proofs.SnapFacts.{from_at, if_at, if_err_so, part_at, part_is, parts_are, reads_part}
use Rattle.snapshot_scan.proofs.snapshots.Snapshot.written_rows.Goals as goal

pub written_block-requires-clause-part : goal.written_block-requires-clause-part
written_block-requires-clause-part g c =
    part_is g.R.SealedReader.view c.self.inside.parts.items c.args.i c.index_mut.result.now
    (subst (λ (v : SnapshotView). c.args.i < length v.parts) (sym c.self.view_is) c.requires.there) c.index_mut.ensures.value c.self.inside.schema c.self.invariant

pub written_block-requires-clause-there : goal.written_block-requires-clause-there
written_block-requires-clause-there g c =
    from_at (slice_get (map (seen g.R.SealedReader.view) c.self.inside.parts.items) c.args.i) (seen g.R.SealedReader.view c.index_mut.result.now) (λ part. c.args.b < length part.footer.blocks) (part_at g.R.SealedReader.view c.self.inside.parts.items c.args.i c.index_mut.result.now
    (subst (λ (v : SnapshotView). c.args.i < length v.parts) (sym c.self.view_is) c.requires.there) c.index_mut.ensures.value)
    (subst (λ (v : SnapshotView). IfSome (slice_get v.parts c.args.i) (λ part. c.args.b < length part.footer.blocks)) (sym c.self.view_is) c.requires.block)

pub invariant_of-self : goal.invariant_of-self
invariant_of-self g c =
    parts_are g.R.SealedReader.view c.self.inside.parts.items c.args.i c.index_mut.result.now
    (subst (λ (v : SnapshotView). c.args.i < length v.parts) (sym c.self.view_is) c.requires.there) c.index_mut.ensures.value c.self.inside.schema c.written_block.new.part c.self.invariant c.written_block.ensures.part

pub returns-clause-rows : goal.returns-clause-rows
returns-clause-rows g c =
    subst (λ (v : SnapshotView). IfOk c.written_block.result (λ live. IfSome (slice_get v.parts c.args.i) (λ part. (piece : Piece) → IsPieceOf v.schema part piece → live.items ≡ block_at c.args.b piece.rows))) c.self.view_is
    (if_ok_so c.written_block.result _ _ (λ live are. if_at (slice_get (map (seen g.R.SealedReader.view) c.self.inside.parts.items) c.args.i) (seen g.R.SealedReader.view c.index_mut.result.now) (λ part. (piece : Piece) → IsPieceOf c.self.inside.schema part piece → live.items ≡ block_at c.args.b piece.rows) (part_at g.R.SealedReader.view c.self.inside.parts.items c.args.i c.index_mut.result.now
    (subst (λ (v : SnapshotView). c.args.i < length v.parts) (sym c.self.view_is) c.requires.there) c.index_mut.ensures.value) are) c.written_block.ensures.rows)

pub returns-clause-bytes : goal.returns-clause-bytes
returns-clause-bytes g c =
    subst (λ (v : SnapshotView). IfOk c.written_block.result (λ live. IfSome (slice_get v.parts c.args.i) (λ part. IsBlockOf v.schema part c.args.b live.items))) c.self.view_is
    (if_ok_so c.written_block.result _ _ (λ live are. if_at (slice_get (map (seen g.R.SealedReader.view) c.self.inside.parts.items) c.args.i) (seen g.R.SealedReader.view c.index_mut.result.now) (λ part. IsBlockOf c.self.inside.schema part c.args.b live.items) (part_at g.R.SealedReader.view c.self.inside.parts.items c.args.i c.index_mut.result.now
    (subst (λ (v : SnapshotView). c.args.i < length v.parts) (sym c.self.view_is) c.requires.there) c.index_mut.ensures.value) are) c.written_block.ensures.bytes)

pub returns-clause-damaged : goal.returns-clause-damaged
returns-clause-damaged g c =
    subst (λ (v : SnapshotView). IfErr c.written_block.result (λ e. IfSome (slice_get v.parts c.args.i) (λ part. OnDamage e (IsDamage part.number (place.Block c.args.b) (λ shown. OfFile part.reader (λ file. OfBlock part.footer c.args.b (λ mark. BlockShown v.schema mark (block_in file mark) shown))))))) c.self.view_is
    (if_err_so c.written_block.result _ _ (λ e are. if_at (slice_get (map (seen g.R.SealedReader.view) c.self.inside.parts.items) c.args.i) (seen g.R.SealedReader.view c.index_mut.result.now) (λ part. OnDamage e (IsDamage part.number (place.Block c.args.b) (λ shown. OfFile part.reader (λ file. OfBlock part.footer c.args.b (λ mark. BlockShown c.self.inside.schema mark (block_in file mark) shown))))) (part_at g.R.SealedReader.view c.self.inside.parts.items c.args.i c.index_mut.result.now
    (subst (λ (v : SnapshotView). c.args.i < length v.parts) (sym c.self.view_is) c.requires.there) c.index_mut.ensures.value) are) c.written_block.ensures.damaged)

pub returns-clause-intact : goal.returns-clause-intact
returns-clause-intact g c =
    subst (λ (v : SnapshotView). IfErr c.written_block.result (λ e. IfSome (slice_get v.parts c.args.i) (λ part. OnDamage e (λ damaged. (piece : Piece) → IsPieceOf v.schema part piece → ⊥)))) c.self.view_is
    (if_err_so c.written_block.result _ _ (λ e are. if_at (slice_get (map (seen g.R.SealedReader.view) c.self.inside.parts.items) c.args.i) (seen g.R.SealedReader.view c.index_mut.result.now) (λ part. OnDamage e (λ damaged. (piece : Piece) → IsPieceOf c.self.inside.schema part piece → ⊥)) (part_at g.R.SealedReader.view c.self.inside.parts.items c.args.i c.index_mut.result.now
    (subst (λ (v : SnapshotView). c.args.i < length v.parts) (sym c.self.view_is) c.requires.there) c.index_mut.ensures.value) are) c.written_block.ensures.intact)

pub returns-clause-reading : goal.returns-clause-reading
returns-clause-reading g c =
    subst (λ (v : SnapshotView). ReadsPart c.args.i v.parts (map (seen g.R.SealedReader.view) (slice_set c.self.inside.parts.items c.args.i c.written_block.new.part)) (λ part reader. Reading 1 part.reader reader c.written_block.result)) c.self.view_is
    (reads_part g.R.SealedReader.view c.self.inside.parts.items c.args.i c.index_mut.result.now
    (subst (λ (v : SnapshotView). c.args.i < length v.parts) (sym c.self.view_is) c.requires.there) c.index_mut.ensures.value c.written_block.new.part (λ part reader. Reading 1 part.reader reader c.written_block.result) c.written_block.ensures.kept c.written_block.ensures.reading)

pub returns-clause-fit : goal.returns-clause-fit
returns-clause-fit g c =
    subst (λ (v : SnapshotView). IfOk c.written_block.result (λ rows. All (λ row. IsTrue (fits_row v.schema row)) rows.items)) c.self.view_is c.written_block.ensures.fit
