use Rattle.std.proofs.Common.{◌<◌, sym, subst, map, length, slice_get, slice_set, IfSome}
use Rattle.snapshot_scan.specs.Parts.{seen}
use Rattle.snapshot_scan.specs.Scans.{HasLive, ReadOn}
use Rattle.snapshot_scan.specs.Snapshots.{ReadsPart, SnapshotView}
use Rattle.snapshot_scan.proofs.SnapFacts.{from_at, part_at, part_is, parts_are, reads_part}
use Rattle.snapshot_scan.proofs.snapshots.Snapshot.read_on.Goals as goal

pub read_on-requires-clause-part : goal.read_on-requires-clause-part
read_on-requires-clause-part g c =
    part_is g.R.SealedReader.view c.self.inside.parts.items c.args.i c.index_mut.result.now
    (subst (λ (v : SnapshotView). c.args.i < length v.parts) (sym c.self.view_is) c.requires.there) c.index_mut.ensures.value c.self.inside.schema c.self.invariant

pub read_on-requires-clause-live : goal.read_on-requires-clause-live
read_on-requires-clause-live g c =
    from_at (slice_get (map (seen g.R.SealedReader.view) c.self.inside.parts.items) c.args.i) (seen g.R.SealedReader.view c.index_mut.result.now) (λ part. HasLive part.footer.rows part.dead c.args.b) (part_at g.R.SealedReader.view c.self.inside.parts.items c.args.i c.index_mut.result.now
    (subst (λ (v : SnapshotView). c.args.i < length v.parts) (sym c.self.view_is) c.requires.there) c.index_mut.ensures.value)
    (subst (λ (v : SnapshotView). IfSome (slice_get v.parts c.args.i) (λ part. HasLive part.footer.rows part.dead c.args.b)) (sym c.self.view_is) c.requires.live)

pub invariant_of-self : goal.invariant_of-self
invariant_of-self g c =
    parts_are g.R.SealedReader.view c.self.inside.parts.items c.args.i c.index_mut.result.now
    (subst (λ (v : SnapshotView). c.args.i < length v.parts) (sym c.self.view_is) c.requires.there) c.index_mut.ensures.value c.self.inside.schema c.read_on.new.part c.self.invariant c.read_on.ensures.part

pub returns-clause-read : goal.returns-clause-read
returns-clause-read g c =
    subst (λ (v : SnapshotView). ReadsPart c.args.i v.parts (map (seen g.R.SealedReader.view) (slice_set c.self.inside.parts.items c.args.i c.read_on.new.part)) (λ part reader. ReadOn v.schema part c.args.b reader c.read_on.result)) c.self.view_is
    (reads_part g.R.SealedReader.view c.self.inside.parts.items c.args.i c.index_mut.result.now
    (subst (λ (v : SnapshotView). c.args.i < length v.parts) (sym c.self.view_is) c.requires.there) c.index_mut.ensures.value c.read_on.new.part (λ part reader. ReadOn c.self.inside.schema part c.args.b reader c.read_on.result) c.read_on.ensures.kept c.read_on.ensures.read)
