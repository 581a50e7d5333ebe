use Rattle.std.proofs.Common.{ℕ, map}
use Rattle.std.specs.Vec.Iter.{into_iter_items, into_iter_len}
use Rattle.dev_traits.specs.Causes.{Counts}
use Rattle.dev_traits.specs.View.{Calm}
use Rattle.snapshot_scan.specs.Parts.{seen}
use Rattle.snapshot_scan.specs.Snapshots.{fault_count}
use Rattle.snapshot_scan.proofs.snapshots.give_back_snapshot.Given as goal

abbrev pub invariant-loop-segment : goal.invariant-loop-segment
invariant-loop-segment g l = record {
  calm : Calm (g.S.Store.view l.fn.store) (g.S.Store.view l.store);
  counts : (m : ℕ) → Counts (fault_count (map (seen g.S.Reader.SealedReader.view) (into_iter_items l.left))) (g.S.Store.view l.store).faults m
      → Counts (fault_count l.fn.snapshot.parts) (g.S.Store.view l.fn.store).faults m;
}

abbrev pub decreases-loop-segment : goal.decreases-loop-segment
decreases-loop-segment g l = into_iter_len l.left
