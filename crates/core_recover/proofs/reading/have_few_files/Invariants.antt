use Rattle.std.proofs.Common.{take}
use Rattle.std.specs.List.{AllByRecursion}
use Rattle.tablet_state.specs.State.{HasFewFiles}
use Rattle.core_recover.proofs.reading.have_few_files.Given as goal

abbrev pub invariant-loop-version : goal.invariant-loop-version
invariant-loop-version l = AllByRecursion HasFewFiles (take l.version-index l.older)
