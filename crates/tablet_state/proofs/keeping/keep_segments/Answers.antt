use Rattle.std.proofs.Common.{◌≡◌, ◌∙◌, ◌+◌, ◌++◌, List, Bool, [], ap, sym, subst, length, not, arith}
use Rattle.std.proofs.lemmas.Grind.{common_steps}
use Rattle.std.specs.List.{filter}
use Rattle.std.specs.Vec.Iter.{into_iter_items}
use Rattle.segment_read.specs.declared.segments.Segment.{Segment}
use Rattle.dev_traits.specs.Causes.{Counts}
use Rattle.dev_traits.proofs.Moments.{calm_then}
use Rattle.tablet_state.specs.Floors.{is_listed}
use Rattle.tablet_state.specs.State.{SegmentView, reader_faults}
use Rattle.tablet_state.specs.Seen.{segment_seen, segments_of}
use Rattle.tablet_state.proofs.KeepLoops.{gone_more, kept_more}
use Rattle.tablet_state.proofs.keeping.keep_segments.Goals as goal

pub loop-segment-preserved : goal.loop-segment-preserved
loop-segment-preserved g c =
    let view = g.S.Reader.SealedReader.view in
    let p : SegmentView → Bool = λ x. is_listed c.args.keep.now x.number in
    let was = c.loop-segment.invariant in
    let all : List SegmentView = segments_of view (into_iter_items c.loop-segment.all) in
    let rest : List SegmentView = segments_of view (into_iter_items c.next.new.self) in
    let at : SegmentView = segment_seen view c.in-Some.segment in
    let is = ap (segments_of view) c.in-Some.ensures.items in
    record {
      kept = kept_more p all rest (segments_of view c.loop-segment.left.items) (segments_of view c.keep_segment.new.left.items)
          (segments_of view c.args.left.now.items ++ filter p (segments_of view c.args.segments.items)) at is was.kept c.keep_segment.ensures.kept;
      room = let many : length (into_iter_items c.loop-segment.all) ≡ length (into_iter_items c.next.new.self) + 1 = ap length c.in-Some.ensures.items ∙ omega arith in omega (arith, was.room, many, c.keep_segment.ensures.len, c.keep_segment.ensures.capacity);
      calm = calm_then _ _ _ was.calm c.keep_segment.ensures.calm;
      counts = λ m h. was.counts m (gone_more (λ x. not (p x)) all rest at (g.S.Store.view c.loop-segment.store).faults (g.S.Store.view c.keep_segment.new.store).faults m is c.keep_segment.ensures.counts h);
    }

pub returns-clause-counts : goal.returns-clause-counts
returns-clause-counts g c =
    let empty : into_iter_items c.loop-segment.all ≡ [] = grind (arith, common_steps, c.in_default.ensures.cases, c.in_default.ensures.items) in
    c.loop-segment.invariant.counts (g.S.Store.view c.loop-segment.store).faults
    (subst (λ (xs : List (Segment g.row.S-Reader.Denot)). Counts (reader_faults (filter (λ (x : SegmentView). not (is_listed c.args.keep.now x.number)) (segments_of g.S.Reader.SealedReader.view xs))) (g.S.Store.view c.loop-segment.store).faults (g.S.Store.view c.loop-segment.store).faults) (sym empty) (omega arith))
