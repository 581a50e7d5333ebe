use Rattle.std.proofs.Common.{◌≡◌, ◌<◌, sym, subst, map, length, slice_get, slice_set, IfOk, IfErr, IfSome}
use Rattle.dev_traits.specs.declared.faults.Part.TheVariants as place
use Rattle.segment_read.specs.Blocks.{BlockShown}
use Rattle.segment_read.specs.Reads.{block_in, IsDamage, OfBlock, OfFile, OnDamage, Reading}
use Rattle.segment_read.proofs.Scanning.{if_ok_so}
use Rattle.rowsets.specs.Scans.{Piece}
use Rattle.snapshot_scan.specs.Parts.{IsPieceOf, IsWhole, live_in, seen}
use Rattle.snapshot_scan.specs.Snapshots.{ReadsPart, SnapshotView}
use Rattle.snapshot_scan.proofs.SnapFacts.{from_at, if_at, if_err_so, part_at, part_is, parts_are, reads_part}
use Rattle.snapshot_scan.proofs.snapshots.Snapshot.block_rows.Goals as goal

pub live_block-requires-clause-part : goal.live_block-requires-clause-part
live_block-requires-clause-part g c =
    part_is g.R.SealedReader.view c.self.inside.parts.items c.args.i c.index_mut.result.now
    (subst (λ (v : SnapshotView). c.args.i < length v.parts) (sym c.self.view_is) c.requires.there) c.index_mut.ensures.value c.self.inside.schema c.self.invariant

pub live_block-requires-clause-there : goal.live_block-requires-clause-there
live_block-requires-clause-there g c =
    from_at (slice_get (map (seen g.R.SealedReader.view) c.self.inside.parts.items) c.args.i) (seen g.R.SealedReader.view c.index_mut.result.now) (λ part. c.args.b < length part.footer.blocks) (part_at g.R.SealedReader.view c.self.inside.parts.items c.args.i c.index_mut.result.now
    (subst (λ (v : SnapshotView). c.args.i < length v.parts) (sym c.self.view_is) c.requires.there) c.index_mut.ensures.value)
    (subst (λ (v : SnapshotView). IfSome (slice_get v.parts c.args.i) (λ part. c.args.b < length part.footer.blocks)) (sym c.self.view_is) c.requires.block)

pub invariant_of-self : goal.invariant_of-self
invariant_of-self g c =
    parts_are g.R.SealedReader.view c.self.inside.parts.items c.args.i c.index_mut.result.now
    (subst (λ (v : SnapshotView). c.args.i < length v.parts) (sym c.self.view_is) c.requires.there) c.index_mut.ensures.value c.self.inside.schema c.live_block.new.part c.self.invariant c.live_block.ensures.part

pub returns-clause-live : goal.returns-clause-live
returns-clause-live g c =
    subst (λ (v : SnapshotView). IfOk c.live_block.result (λ live. IfSome (slice_get v.parts c.args.i) (λ part. (piece : Piece) → IsPieceOf v.schema part piece → live.items ≡ live_in c.args.b piece))) c.self.view_is
    (if_ok_so c.live_block.result _ _ (λ live are. if_at (slice_get (map (seen g.R.SealedReader.view) c.self.inside.parts.items) c.args.i) (seen g.R.SealedReader.view c.index_mut.result.now) (λ part. (piece : Piece) → IsPieceOf c.self.inside.schema part piece → live.items ≡ live_in c.args.b piece) (part_at g.R.SealedReader.view c.self.inside.parts.items c.args.i c.index_mut.result.now
    (subst (λ (v : SnapshotView). c.args.i < length v.parts) (sym c.self.view_is) c.requires.there) c.index_mut.ensures.value) are) c.live_block.ensures.live)

pub returns-clause-whole : goal.returns-clause-whole
returns-clause-whole g c =
    subst (λ (v : SnapshotView). IfOk c.live_block.result (λ _. IfSome (slice_get v.parts c.args.i) (λ part. IsWhole v.schema part c.args.b))) c.self.view_is
    (if_ok_so c.live_block.result _ _ (λ live are. if_at (slice_get (map (seen g.R.SealedReader.view) c.self.inside.parts.items) c.args.i) (seen g.R.SealedReader.view c.index_mut.result.now) (λ part. IsWhole c.self.inside.schema part c.args.b) (part_at g.R.SealedReader.view c.self.inside.parts.items c.args.i c.index_mut.result.now
    (subst (λ (v : SnapshotView). c.args.i < length v.parts) (sym c.self.view_is) c.requires.there) c.index_mut.ensures.value) are) c.live_block.ensures.whole)

pub returns-clause-damaged : goal.returns-clause-damaged
returns-clause-damaged g c =
    subst (λ (v : SnapshotView). IfErr c.live_block.result (λ e. IfSome (slice_get v.parts c.args.i) (λ part. OnDamage e (IsDamage part.number (place.Block c.args.b) (λ shown. OfFile part.reader (λ file. OfBlock part.footer c.args.b (λ mark. BlockShown v.schema mark (block_in file mark) shown))))))) c.self.view_is
    (if_err_so c.live_block.result _ _ (λ e are. if_at (slice_get (map (seen g.R.SealedReader.view) c.self.inside.parts.items) c.args.i) (seen g.R.SealedReader.view c.index_mut.result.now) (λ part. OnDamage e (IsDamage part.number (place.Block c.args.b) (λ shown. OfFile part.reader (λ file. OfBlock part.footer c.args.b (λ mark. BlockShown c.self.inside.schema mark (block_in file mark) shown))))) (part_at g.R.SealedReader.view c.self.inside.parts.items c.args.i c.index_mut.result.now
    (subst (λ (v : SnapshotView). c.args.i < length v.parts) (sym c.self.view_is) c.requires.there) c.index_mut.ensures.value) are) c.live_block.ensures.damaged)

pub returns-clause-intact : goal.returns-clause-intact
returns-clause-intact g c =
    subst (λ (v : SnapshotView). IfErr c.live_block.result (λ e. IfSome (slice_get v.parts c.args.i) (λ part. OnDamage e (λ damaged. (piece : Piece) → IsPieceOf v.schema part piece → ⊥)))) c.self.view_is
    (if_err_so c.live_block.result _ _ (λ e are. if_at (slice_get (map (seen g.R.SealedReader.view) c.self.inside.parts.items) c.args.i) (seen g.R.SealedReader.view c.index_mut.result.now) (λ part. OnDamage e (λ damaged. (piece : Piece) → IsPieceOf c.self.inside.schema part piece → ⊥)) (part_at g.R.SealedReader.view c.self.inside.parts.items c.args.i c.index_mut.result.now
    (subst (λ (v : SnapshotView). c.args.i < length v.parts) (sym c.self.view_is) c.requires.there) c.index_mut.ensures.value) are) c.live_block.ensures.intact)

pub returns-clause-reading : goal.returns-clause-reading
returns-clause-reading g c =
    subst (λ (v : SnapshotView). ReadsPart c.args.i v.parts (map (seen g.R.SealedReader.view) (slice_set c.self.inside.parts.items c.args.i c.live_block.new.part)) (λ part reader. Reading 1 part.reader reader c.live_block.result)) c.self.view_is
    (reads_part g.R.SealedReader.view c.self.inside.parts.items c.args.i c.index_mut.result.now
    (subst (λ (v : SnapshotView). c.args.i < length v.parts) (sym c.self.view_is) c.requires.there) c.index_mut.ensures.value c.live_block.new.part (λ part reader. Reading 1 part.reader reader c.live_block.result) c.live_block.ensures.kept c.live_block.ensures.reading)
