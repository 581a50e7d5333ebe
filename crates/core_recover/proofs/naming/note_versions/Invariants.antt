use Rattle.std.proofs.Common.{take}
use Rattle.std.specs.BTreeMap.{get}
use Rattle.std.specs.Ordering.{nat_cmp}
use Rattle.tablet_state.specs.Stands.{told_file}
use Rattle.core_recover.specs.Naming.{Notes, told_in}
use Rattle.core_recover.proofs.naming.note_versions.Given as goal

abbrev pub invariant-loop-version : goal.invariant-loop-version
invariant-loop-version l = Notes (told_in (take l.version-index l.versions)) (get nat_cmp l.fn.noted) (get nat_cmp l.noted)
