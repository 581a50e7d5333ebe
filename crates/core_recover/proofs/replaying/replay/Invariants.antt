use Rattle.std.proofs.Common.{IsTrue}
use Rattle.std.specs.List.{AllByRecursion}
use Rattle.std.specs.Vec.Iter.{into_iter_items, into_iter_len}
use Rattle.journal_form.specs.Standings.{is_built}
use Rattle.core_recover.specs.Replaying.{SoFar}
use Rattle.core_recover.proofs.replaying.replay.Given as goal

abbrev pub invariant-loop-told : goal.invariant-loop-told
invariant-loop-told l = record {
  so_far : SoFar l.fn.records.items (into_iter_items l.left) l.replayed;
  built : AllByRecursion (λ r. IsTrue (is_built r)) (into_iter_items l.left);
}

abbrev pub decreases-loop-told : goal.decreases-loop-told
decreases-loop-told l = into_iter_len l.left
