use Rattle.std.proofs.Common.{ℕ}
use Rattle.std.specs.Vec.Iter.{into_iter_items, into_iter_len}
use Rattle.dev_traits.specs.Causes.{Counts}
use Rattle.dev_traits.specs.View.{Calm}
use Rattle.store_files.specs.Named.{faults_in}
use Rattle.store_files.proofs.attaching.give_back_all.Given as goal

abbrev pub invariant-loop-segment : goal.invariant-loop-segment
invariant-loop-segment g l = record {
  calm : Calm (g.S.Store.view l.fn.store) (g.S.Store.view l.store);
  counts : (m : ℕ) → Counts (faults_in g.S.Reader.SealedReader.view (into_iter_items l.left)) (g.S.Store.view l.store).faults m
      → Counts (faults_in g.S.Reader.SealedReader.view l.fn.segments.items) (g.S.Store.view l.fn.store).faults m;
}

abbrev pub decreases-loop-segment : goal.decreases-loop-segment
decreases-loop-segment g l = into_iter_len l.left
