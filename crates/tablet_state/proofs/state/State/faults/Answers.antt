use Rattle.std.proofs.Common.{◌≡◌, ◌+◌, ◌-◌, ◌^◌, List, ap, subst, slice_get, Some}
use Rattle.tablet_state.specs.State.{SegmentView, Shown}
use Rattle.tablet_state.specs.Seen.{segment_seen}
use Rattle.tablet_state.proofs.Counting.{faults_step, mapped_at}
use Rattle.tablet_state.proofs.state.State.faults.Goals as goal

pub loop-segment-preserved : goal.loop-segment-preserved
loop-segment-preserved g c =
    let seen = segment_seen g.S.Reader.SealedReader.view c.segment-item.result in
    faults_step c.args.self.now.segments c.loop-segment.segment-index ((g.S.Store.view c.args.self.now.store).faults + c.args.self.now.maker_faults) (2 ^ 64 - 1) c.loop-segment.faults
    c.faults-in-loop-segment.result c.saturating_add-faults-in-loop-segment.result seen
    (subst (λ (gs : List SegmentView). slice_get gs c.loop-segment.segment-index ≡ Some seen) (ap (λ (x : Shown g.row.S.Denot). x.segments) c.self.view_is)
    (mapped_at (segment_seen g.S.Reader.SealedReader.view) c.self.inside.segments.items c.deref-segment-items.result.now c.loop-segment.segment-index c.segment-item.result c.deref-segment-items.ensures.value c.loop-segment-test.true c.segment-item.is))
    c.faults-in-loop-segment.ensures c.loop-segment.invariant c.saturating_add-faults-in-loop-segment.ensures
