use Rattle.std.proofs.Common.{ℕ, ◌≤◌, List, take}
use Rattle.dev_memory.specs.Disk.{AreaDisk, deeds}
use Rattle.dev_memory.specs.Crash.{one_replay, IsAtRest}
use Rattle.dev_memory.proofs.crash.last_rest.Given as goal

abbrev pub invariant-loop-i : goal.invariant-loop-i
invariant-loop-i l = record {
  within : l.count ≤ l.i;
  rests : (pieces : List ℕ) (d : AreaDisk) → IsAtRest d → IsAtRest (one_replay l.area (deeds pieces (take l.count l.calls)) d);
}
