use Rattle.std.proofs.Common.{◌≡◌, ◌++◌, map, take}
use Rattle.journal_form.specs.declared.records.ListedFile.{ListedFile}
use Rattle.tablet_state.proofs.keeping.note_files.Given as goal

abbrev pub invariant-loop-file : goal.invariant-loop-file
invariant-loop-file l = l.numbers.items ≡ l.fn.numbers.items ++ map (λ (f : ListedFile). f.file) (take l.file-index l.files)
