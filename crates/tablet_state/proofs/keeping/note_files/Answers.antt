use Rattle.std.proofs.Common.{◌∙◌, ◌++◌, ◌∷◌, [], ℕ, ap, map}
use Rattle.journal_form.specs.declared.records.ListedFile.{ListedFile}
use Rattle.tablet_state.proofs.Counting.{at_index}
use Rattle.tablet_state.proofs.KeepLoops.{files_join, noted_next}
use Rattle.tablet_state.proofs.keeping.note_files.Goals as goal

pub loop-file-preserved : goal.loop-file-preserved
loop-file-preserved c =
    noted_next (map (λ (f : ListedFile). f.file)) files_join c.args.files.now c.loop-file.file-index c.file-item.result c.args.numbers.now.items c.loop-file.numbers.items c.push.new.self.items
    (at_index c.args.files.now c.loop-file.file-index c.file-item.result c.loop-file-test.true c.file-item.is) c.loop-file.invariant
    (c.in_ok-push.ensures.items ∙ ap (λ (n : ℕ). c.loop-file.numbers.items ++ n ∷ []) c.number.ensures)
