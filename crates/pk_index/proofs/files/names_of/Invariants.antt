use Rattle.std.proofs.Common.{◌≡◌, map, take}
use Rattle.pk_index.proofs.files.names_of.Given as goal

abbrev pub invariant-loop-file : goal.invariant-loop-file
invariant-loop-file g l = l.told.items ≡ map g.F.FileLevel.named (take l.file-index l.files)
