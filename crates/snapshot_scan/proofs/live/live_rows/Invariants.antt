use Rattle.std.proofs.Common.{◌≡◌, ◌≤◌, ◌+◌, ◌++◌, length}
use Rattle.std.specs.Vec.Iter.{into_iter_items, into_iter_len}
use Rattle.rowsets.specs.Scans.{alive}
use Rattle.snapshot_scan.proofs.live.live_rows.Given as goal

abbrev pub invariant-loop-row : goal.invariant-loop-row
invariant-loop-row l = record {
  so_far : l.live.items ++ alive l.dead l.number (into_iter_items l.left) ≡ alive l.dead l.first l.fn.rows.items;
  within : l.number + length (into_iter_items l.left) ≤ 65536;
}

abbrev pub decreases-loop-row : goal.decreases-loop-row
decreases-loop-row l = into_iter_len l.left
