use Rattle.std.proofs.Common.{◌≡◌, ◌-◌, ◌^◌, List, ap, subst, slice_get, Some}
use Rattle.snapshot_scan.specs.Parts.{PartView, seen}
use Rattle.snapshot_scan.specs.Snapshots.{SnapshotView}
use Rattle.snapshot_scan.proofs.CountFacts.{faults_step, shown_at}
use Rattle.snapshot_scan.proofs.snapshots.Snapshot.faults.Goals as goal

pub loop-part-preserved : goal.loop-part-preserved
loop-part-preserved g c =
    faults_step c.args.self.now.parts c.loop-part.part-index (2 ^ 64 - 1) c.loop-part.faults c.faults.result c.saturating_add-faults.result (seen g.R.SealedReader.view c.part-item.result)
    (subst (λ (ps : List PartView). slice_get ps c.loop-part.part-index ≡ Some (seen g.R.SealedReader.view c.part-item.result)) (ap (λ (v : SnapshotView). v.parts) c.self.view_is) (shown_at g.R.SealedReader.view c.self.inside.parts.items c.deref-part-items.result.now c.deref-part-items.ensures.value c.loop-part.part-index c.part-item.result c.loop-part-test.true c.part-item.is))
    c.faults.ensures c.loop-part.invariant c.saturating_add-faults.ensures
