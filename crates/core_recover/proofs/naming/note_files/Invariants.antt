use Rattle.std.proofs.Common.{take, map}
use Rattle.std.specs.BTreeMap.{get}
use Rattle.std.specs.Ordering.{nat_cmp}
use Rattle.tablet_state.specs.Stands.{told_file}
use Rattle.core_recover.specs.Naming.{Notes}
use Rattle.core_recover.proofs.naming.note_files.Given as goal

abbrev pub invariant-loop-file : goal.invariant-loop-file
invariant-loop-file l = Notes (map told_file (take l.file-index l.files)) (get nat_cmp l.fn.noted) (get nat_cmp l.noted)
