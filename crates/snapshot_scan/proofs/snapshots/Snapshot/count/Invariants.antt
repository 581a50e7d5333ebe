use Rattle.std.proofs.Common.{◌≡◌, ◌≤◌, ◌*◌, take}
use Rattle.std.specs.List.{AllByRecursion}
use Rattle.rowsets.specs.Marks.{Rises}
use Rattle.snapshot_scan.specs.Snapshots.{live_count}
use Rattle.snapshot_scan.proofs.snapshots.Snapshot.count.Given as goal

abbrev pub invariant-loop-part : goal.invariant-loop-part
invariant-loop-part g l = record {
  count : l.count ≡ live_count (take l.part-index l.self.parts);
  few : l.count ≤ l.part-index * 65536;
  rise : AllByRecursion (λ part. Rises part.dead) (take l.part-index l.self.parts);
}
