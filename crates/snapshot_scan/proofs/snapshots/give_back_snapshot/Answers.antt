use Rattle.std.proofs.Common.{◌≡◌, ◌∙◌, List, ap, subst, map, arith, []}
use Rattle.std.proofs.lemmas.Grind.{common_steps}
use Rattle.std.specs.Vec.Iter.{into_iter_items}
use Rattle.dev_traits.specs.Causes.{Counts}
use Rattle.dev_traits.proofs.Moments.{calm_none, calm_then}
use Rattle.snapshot_scan.specs.Parts.{PartView, seen}
use Rattle.snapshot_scan.specs.Snapshots.{SnapshotView, fault_count}
use Rattle.snapshot_scan.proofs.CountFacts.{all_given_back, given_back}
use Rattle.snapshot_scan.proofs.snapshots.give_back_snapshot.Goals as goal

pub loop-segment-init : goal.loop-segment-init
loop-segment-init g c =
    let same : map (seen g.S.Reader.SealedReader.view) (into_iter_items c.into_iter-left.result) ≡ c.args.snapshot.parts = ap (map (seen g.S.Reader.SealedReader.view)) c.into_iter-left.ensures.rest ∙ ap (λ (v : SnapshotView). v.parts) c.snapshot.view_is in
    record {
      calm = calm_none (g.S.Store.view c.args.store.now);
      counts = λ m h. subst (λ (ps : List PartView). Counts (fault_count ps) (g.S.Store.view c.args.store.now).faults m) same h;
    }

pub loop-segment-preserved-in-Some : goal.loop-segment-preserved-in-Some
loop-segment-preserved-in-Some g c =
    record {
      calm = calm_then _ _ _ c.loop-segment.invariant.calm c.give_back_reader.ensures.calm;
      counts = λ m h. c.loop-segment.invariant.counts m
          (given_back g.S.Reader.SealedReader.view (into_iter_items c.loop-segment.left) (into_iter_items c.next.new.self) (c.in-Some.segment, c.in-Some.field-0-1) _ _ m c.in-Some.ensures.items c.give_back_reader.ensures.counts h);
    }

pub loop-segment-preserved : goal.loop-segment-preserved
loop-segment-preserved g c =
    record {
      calm = calm_then _ _ _ c.loop-segment.invariant.calm c.give_back_reader.ensures.calm;
      counts = λ m h. c.loop-segment.invariant.counts m
          (given_back g.S.Reader.SealedReader.view (into_iter_items c.loop-segment.left) (into_iter_items c.next.new.self) (c.in-Some.segment, c.in-Some.field-0-1) _ _ m c.in-Some.ensures.items c.give_back_reader.ensures.counts h);
    }

pub returns-clause-counts : goal.returns-clause-counts
returns-clause-counts g c =
    let empty : into_iter_items c.loop-segment.left ≡ [] = grind (arith, common_steps, c.in_default.ensures.cases, c.in_default.ensures.items) in
    c.loop-segment.invariant.counts (g.S.Store.view c.loop-segment.store).faults
    (all_given_back g.S.Reader.SealedReader.view (into_iter_items c.loop-segment.left) (g.S.Store.view c.loop-segment.store).faults empty)
