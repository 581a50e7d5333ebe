use Rattle.std.proofs.Common.{◌≡◌, ◌∙◌, ◌+◌, ◌&&◌, ap, sym, Bool, List, drop}
use Rattle.journal_form.specs.declared.records.ListedFile.{ListedFile}
use Rattle.journal_form.specs.Versions.{files_of}
use Rattle.kept_versions.specs.Marking.{lives_all, noted_all}
use Rattle.kept_versions.proofs.FindFacts.{files_left, rowset_found, rowset_lives}
use Rattle.kept_versions.proofs.marking.note_rowsets.Goals as goal
use Rattle.kept_versions.proofs.marking.note_rowsets.Goals.{then-live, else-live}

pub loop-files-preserved : goal.loop-files-preserved
loop-files-preserved c =
    let i = c.loop-files.files-index in
    let x = c.files-item.result in
    let cs = c.args.changed.now in
    let bs = c.loop-files.found.items in
    let next = c.note_all-lives.new.found.items in
    let live = c.loop-files.live in
    let split = files_left c.args.rowsets.now i x c.loop-files-test.true c.files-item.is in
    let both : c.if-live.live ≡ (live && c.note_all-lives.result) = elim c.if-live.branch [
      | then-live w ↦ w.live-is ∙ sym (ap (λ (b : Bool). b && c.note_all-lives.result) w.if-live.true)
      | else-live w ↦ w.live-is ∙ w.if-live.false ∙ sym (ap (λ (b : Bool). b && c.note_all-lives.result) w.if-live.false)
    ] in
    record {
      each = c.note_all-lives.ensures.each;
      found = rowset_found (files_of (drop i c.args.rowsets.now)) (files_of (drop (i + 1) c.args.rowsets.now)) x cs bs next _ split (c.note_all-lives.ensures.found ∙ ap (λ (fs : List ListedFile). noted_all fs cs bs) c.as_slice.ensures) c.loop-files.invariant.found;
      lives = rowset_lives (files_of (drop i c.args.rowsets.now)) (files_of (drop (i + 1) c.args.rowsets.now)) x cs bs next live c.if-live.live c.note_all-lives.result _ split (c.note_all-lives.ensures.found ∙ ap (λ (fs : List ListedFile). noted_all fs cs bs) c.as_slice.ensures) (c.note_all-lives.ensures.lives ∙ ap (λ (fs : List ListedFile). lives_all fs cs bs) c.as_slice.ensures) both c.loop-files.invariant.lives;
    }
