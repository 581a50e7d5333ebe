use Rattle.std.proofs.Common.{take}
use Rattle.std.specs.BTreeMap.{get}
use Rattle.std.specs.Ordering.{nat_cmp}
use Rattle.tablet_state.specs.Stands.{told_file}
use Rattle.core_recover.specs.Naming.{Notes, told_of}
use Rattle.core_recover.proofs.naming.note_version.Given as goal

abbrev pub invariant-loop-files : goal.invariant-loop-files
invariant-loop-files l = Notes (told_of (take l.files-index l.files-items)) (get nat_cmp l.fn.noted) (get nat_cmp l.noted)
