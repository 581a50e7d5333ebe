use Rattle.std.proofs.Common.{◌≡◌, map, take}
use Rattle.dev_memory.specs.Areas.{bytes_in}
use Rattle.dev_memory.proofs.kept.areas_of.Given as goal

abbrev pub invariant-loop-bytes : goal.invariant-loop-bytes
invariant-loop-bytes l = map bytes_in l.areas.items ≡ take l.bytes-index l.start
