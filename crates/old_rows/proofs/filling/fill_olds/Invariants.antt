use Rattle.std.proofs.Common.{◌≡◌, ◌-◌, ◌≤◌, length, take}
use Rattle.snapshot_scan.specs.Snapshots.{fault_count}
use Rattle.old_rows.specs.Reading.{AreFilled, SameButCounts}
use Rattle.old_rows.proofs.FillingFacts.{ReadSoFar}
use Rattle.old_rows.proofs.filling.fill_olds.Given as goal

abbrev pub invariant-loop-at : goal.invariant-loop-at
invariant-loop-at g l = record {
  most : l.at ≤ length l.wanted;
  filled : AreFilled l.fn.snapshot l.keys (take l.at l.wanted) l.olds.items;
  same : SameButCounts l.fn.snapshot l.snapshot;
  faults : fault_count l.snapshot.parts ≡ fault_count l.fn.snapshot.parts;
  read : ReadSoFar l.wanted l.at l.fn.snapshot.parts l.snapshot.parts;
}

abbrev pub decreases-loop-at : goal.decreases-loop-at
decreases-loop-at g l = length l.wanted - l.at
