use Rattle.std.proofs.Common.{◌≡◌, ◌≤◌, length}
use Rattle.std.specs.Vec.Iter.{into_iter_items, into_iter_len}
use Rattle.rowsets.specs.Indexing.{put_all}
use Rattle.kept_versions.proofs.key_index.KeyIndex.put_all.Given as goal

abbrev pub invariant-loop-key : goal.invariant-loop-key
invariant-loop-key l = record {
  room : length (into_iter_items l.left) ≤ l.self.spare;
  map : put_all (into_iter_items l.left) l.self.map ≡ put_all l.fn.changes.items l.fn.self.map;
}

abbrev pub decreases-loop-key : goal.decreases-loop-key
decreases-loop-key l = into_iter_len l.left
