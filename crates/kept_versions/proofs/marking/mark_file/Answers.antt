use Rattle.std.proofs.Common.{◌≡◌, ℕ, ◌∙◌, List, sym, subst, IfOk, ◌==◌, false}
use Rattle.std.specs.List.{list_any}
use Rattle.rowsets.specs.Marks.{with_rows}
use Rattle.journal_form.specs.declared.records.ListedFile.{ListedFile}
use Rattle.kept_versions.specs.Marking.{changed_numbers}
use Rattle.kept_versions.proofs.FindFacts.{at_changed, none_changed}
use Rattle.kept_versions.proofs.marking.mark_file.Goals as goal

-- a file with these rows dead too
with_dead : ListedFile → List ℕ → ListedFile
with_dead f rows = record { file = f.file; rows = f.rows; dead = with_rows rows f.dead }

pub returns-in-Some : goal.returns-in-Some
unfolding with_dead
returns-in-Some c =
    let file = c.args.file.now in
    let x = c.index-changed-g.result in
    let there = c.in-Some.ensures.there ∙ c.number.ensures in
    let rows = c.as_slice.ensures ∙ sym (at_changed file.file c.args.changed.now c.in-Some.g x c.requires.files c.in-Some.ensures.within there) in
    subst (λ (rows : List ℕ). IfOk c.with_dead.result (λ marked. marked ≡ with_dead file rows)) rows c.with_dead.ensures

pub returns-in-None : goal.returns-in-None
unfolding with_dead
returns-in-None c =
    let file = c.args.file.now in
    let none = subst (λ (n : ℕ). list_any (λ m. m == n) (changed_numbers c.args.changed.now) ≡ false) c.number.ensures c.in-None.ensures.none in
    subst (λ (rows : List ℕ). IfOk c.copy.result (λ marked. marked ≡ with_dead file rows)) (sym (none_changed file.file c.args.changed.now none)) c.copy.ensures
