use Rattle.std.proofs.Common.{◌≡◌, ◌+◌, drop}
use Rattle.dev_memory.specs.Disk.{AreaDisk, deeds, written}
use Rattle.dev_memory.specs.Crash.{one_replay}
use Rattle.dev_memory.proofs.crash.replay.Given as goal

abbrev pub invariant-loop-i : goal.invariant-loop-i
invariant-loop-i l = record {
  fits : l.at + written (drop l.i l.calls) ≡ written l.calls;
  reads : (d : AreaDisk) → d.bytes ≡ l.initial.bytes.bytes
      → (now : AreaDisk) × (now.bytes ≡ l.bytes.bytes) × (one_replay l.area (deeds (drop l.at l.pieces) (drop l.i l.calls)) now ≡ one_replay l.area (deeds l.pieces l.calls) d);
}
