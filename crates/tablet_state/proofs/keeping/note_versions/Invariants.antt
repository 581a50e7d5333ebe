use Rattle.std.proofs.Common.{◌≡◌, ◌++◌, take}
use Rattle.tablet_state.specs.Floors.{kept_numbers}
use Rattle.tablet_state.proofs.keeping.note_versions.Given as goal

abbrev pub invariant-loop-version : goal.invariant-loop-version
invariant-loop-version l = l.numbers.items ≡ l.fn.numbers.items ++ kept_numbers (take l.version-index l.versions)
