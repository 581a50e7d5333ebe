use Rattle.std.proofs.Common.{◌≡◌, ◌-◌, ◌^◌, map, min, take}
use Rattle.std.specs.Prelude.{sum}
use Rattle.pk_index.proofs.files.faults_of.Given as goal

abbrev pub invariant-loop-file : goal.invariant-loop-file
invariant-loop-file g l = l.count ≡ min (sum (map g.F.FileLevel.faults (take l.file-index l.files))) (2 ^ 64 - 1)
