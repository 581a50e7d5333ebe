use Rattle.std.proofs.Common.{ℕ}
use Rattle.std.specs.Vec.Iter.{into_iter_items, into_iter_len}
use Rattle.dev_traits.specs.Causes.{Counts}
use Rattle.dev_traits.specs.View.{Calm}
use Rattle.tablet_state.specs.State.{reader_faults}
use Rattle.tablet_state.specs.Seen.{segments_of}
use Rattle.tablet_state.proofs.hands.give_back_readers.Given as goal

abbrev pub invariant-loop-segment : goal.invariant-loop-segment
invariant-loop-segment g l = record {
  calm : Calm (g.S.Store.view l.fn.store) (g.S.Store.view l.store);
  counts : (m : ℕ) → Counts (reader_faults (segments_of g.S.Reader.SealedReader.view (into_iter_items l.left))) (g.S.Store.view l.store).faults m
      → Counts (reader_faults (segments_of g.S.Reader.SealedReader.view l.fn.segments.items)) (g.S.Store.view l.fn.store).faults m;
}

abbrev pub decreases-loop-segment : goal.decreases-loop-segment
decreases-loop-segment g l = into_iter_len l.left
