use Rattle.std.proofs.Common.{◌≡◌, ◌+◌, drop}
use Rattle.dev_memory.specs.Disk.{AreaDisk, deeds, written}
use Rattle.dev_memory.specs.Crash.{one_replay, Remains}
use Rattle.dev_memory.proofs.crash.leave_all.Given as goal

abbrev pub invariant-loop-i : goal.invariant-loop-i
invariant-loop-i l = record {
  fits : l.at + written (drop l.i l.calls) ≡ written l.calls;
  stands : (d : AreaDisk) → Remains l.pick d l.initial.bytes.bytes l.initial.left.bytes
      → (now : AreaDisk) × Remains l.pick now l.bytes.bytes l.left.bytes × (one_replay l.area (deeds (drop l.at l.pieces) (drop l.i l.calls)) now ≡ one_replay l.area (deeds l.pieces l.calls) d);
}
