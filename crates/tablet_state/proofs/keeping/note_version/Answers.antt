use Rattle.std.proofs.Common.{◌∙◌, ◌++◌, List, ℕ, ap, map}
use Rattle.journal_form.specs.declared.records.ListedFile.{ListedFile}
use Rattle.journal_form.specs.Meaning.{file_numbers}
use Rattle.tablet_state.proofs.Counting.{at_index}
use Rattle.tablet_state.proofs.KeepLoops.{noted_next, one_rowset, rowsets_join}
use Rattle.tablet_state.proofs.keeping.note_version.Goals as goal

pub loop-files-preserved : goal.loop-files-preserved
loop-files-preserved c =
    noted_next (λ rs. file_numbers rs) rowsets_join c.rowsets-files-items.result.now c.loop-files.files-index c.files-item.result c.args.numbers.now.items c.loop-files.numbers.items c.note_files.new.numbers.items
    (at_index c.rowsets-files-items.result.now c.loop-files.files-index c.files-item.result c.loop-files-test.true c.files-item.is) c.loop-files.invariant
    (c.in_ok-note_files.ensures ∙ ap (λ (ns : List ℕ). c.loop-files.numbers.items ++ ns) (ap (map (λ (f : ListedFile). f.file)) c.as_slice.ensures ∙ one_rowset c.files-item.result))
