use Rattle.std.proofs.Common.{◌≡◌, ◌++◌, map, take, drop}
use Rattle.dev_memory.specs.Disk.{closed}
use Rattle.dev_memory.proofs.kept.close_others.Given as goal

abbrev pub invariant-loop-i : goal.invariant-loop-i
invariant-loop-i l = l.files ≡ map (closed l.keep l.now) (take l.i l.initial.files) ++ drop l.i l.initial.files
