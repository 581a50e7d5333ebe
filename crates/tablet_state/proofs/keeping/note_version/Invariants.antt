use Rattle.std.proofs.Common.{◌≡◌, ◌++◌, take}
use Rattle.journal_form.specs.Meaning.{file_numbers}
use Rattle.tablet_state.proofs.keeping.note_version.Given as goal

abbrev pub invariant-loop-files : goal.invariant-loop-files
invariant-loop-files l = l.numbers.items ≡ l.fn.numbers.items ++ file_numbers (take l.files-index l.files-items)
