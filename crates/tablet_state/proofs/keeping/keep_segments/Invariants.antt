use Rattle.std.proofs.Common.{◌≡◌, ◌≤◌, ◌+◌, ◌++◌, ℕ, length, not, vec_len, vec_capacity}
use Rattle.std.specs.List.{filter}
use Rattle.std.specs.Vec.Iter.{into_iter_items, into_iter_len}
use Rattle.dev_traits.specs.Causes.{Counts}
use Rattle.dev_traits.specs.View.{Calm}
use Rattle.tablet_state.specs.Floors.{is_listed}
use Rattle.tablet_state.specs.State.{SegmentView, reader_faults}
use Rattle.tablet_state.specs.Seen.{segments_of}
use Rattle.tablet_state.proofs.keeping.keep_segments.Given as goal

abbrev pub invariant-loop-segment : goal.invariant-loop-segment
invariant-loop-segment g l = record {
  kept : segments_of g.S.Reader.SealedReader.view l.left.items ++ filter (λ (x : SegmentView). is_listed l.keep x.number) (segments_of g.S.Reader.SealedReader.view (into_iter_items l.all))
      ≡ segments_of g.S.Reader.SealedReader.view l.fn.left.items ++ filter (λ (x : SegmentView). is_listed l.keep x.number) (segments_of g.S.Reader.SealedReader.view l.fn.segments.items);
  room : vec_len l.left + length (into_iter_items l.all) ≤ vec_capacity l.left;
  calm : Calm (g.S.Store.view l.fn.store) (g.S.Store.view l.store);
  counts : (m : ℕ) → Counts (reader_faults (filter (λ (x : SegmentView). not (is_listed l.keep x.number)) (segments_of g.S.Reader.SealedReader.view (into_iter_items l.all)))) (g.S.Store.view l.store).faults m
      → Counts (reader_faults (filter (λ (x : SegmentView). not (is_listed l.keep x.number)) (segments_of g.S.Reader.SealedReader.view l.fn.segments.items))) (g.S.Store.view l.fn.store).faults m;
}

abbrev pub decreases-loop-segment : goal.decreases-loop-segment
decreases-loop-segment g l = into_iter_len l.all
