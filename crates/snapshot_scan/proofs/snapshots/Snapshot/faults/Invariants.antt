use Rattle.std.proofs.Common.{◌≡◌, ◌^◌, ◌-◌, min, take}
use Rattle.snapshot_scan.specs.Snapshots.{fault_count}
use Rattle.snapshot_scan.proofs.snapshots.Snapshot.faults.Given as goal

abbrev pub invariant-loop-part : goal.invariant-loop-part
invariant-loop-part g l = l.faults ≡ min (fault_count (take l.part-index l.self.parts)) (2 ^ 64 - 1)
