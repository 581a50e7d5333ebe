use Rattle.std.proofs.Common.{◌≡◌, subst, arith, []}
use Rattle.std.proofs.lemmas.Grind.{common_steps}
use Rattle.std.specs.Vec.Iter.{into_iter_items}
use Rattle.dev_traits.specs.Causes.{Counts}
use Rattle.dev_traits.proofs.Moments.{calm_none, calm_then}
use Rattle.store_files.specs.Named.{faults_in}
use Rattle.store_files.proofs.FileFacts.{all_given_back, given_back}
use Rattle.store_files.proofs.attaching.give_back_all.Goals as goal

pub loop-segment-init : goal.loop-segment-init
loop-segment-init g c = record {
  calm = calm_none (g.S.Store.view c.args.store.now);
  counts = λ m h. subst (λ xs. Counts (faults_in g.S.Reader.SealedReader.view xs) (g.S.Store.view c.args.store.now).faults m) c.into_iter-left.ensures.rest h;
}

pub loop-segment-preserved : goal.loop-segment-preserved
loop-segment-preserved g c = record {
  calm = calm_then _ _ _ c.loop-segment.invariant.calm c.give_back_reader.ensures.calm;
  counts = λ m h. c.loop-segment.invariant.counts m
      (given_back g.S.Reader.SealedReader.view (into_iter_items c.loop-segment.left) (into_iter_items c.next.new.self) c.in-Some.segment _ _ m c.in-Some.ensures.items c.give_back_reader.ensures.counts h);
}

pub returns-clause-counts : goal.returns-clause-counts
returns-clause-counts g c =
    let empty : into_iter_items c.loop-segment.left ≡ [] = grind (arith, common_steps, c.in_default.ensures.cases, c.in_default.ensures.items) in
    c.loop-segment.invariant.counts (g.S.Store.view c.loop-segment.store).faults
    (all_given_back g.S.Reader.SealedReader.view (into_iter_items c.loop-segment.left) (g.S.Store.view c.loop-segment.store).faults empty)
