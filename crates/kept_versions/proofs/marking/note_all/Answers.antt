use Rattle.std.proofs.Common.{◌≡◌, ◌∙◌, ◌+◌, ◌&&◌, ap, sym, Bool, length, drop}
use Rattle.kept_versions.proofs.FindFacts.{cut, length-noted, note_found, note_lives}
use Rattle.kept_versions.proofs.marking.note_all.Goals as goal
use Rattle.kept_versions.proofs.marking.note_all.Goals.{then-live, else-live}

pub loop-file-preserved : goal.loop-file-preserved
loop-file-preserved c =
    let i = c.loop-file.file-index in
    let x = c.file-item.result in
    let cs = c.args.changed.now in
    let bs = c.loop-file.found.items in
    let next = c.note-lives.new.found.items in
    let live = c.loop-file.live in
    let split = cut c.args.files.now i x c.loop-file-test.true c.file-item.is in
    let both : c.if-live.live ≡ (live && c.note-lives.result) = elim c.if-live.branch [
      | then-live w ↦ w.live-is ∙ sym (ap (λ (b : Bool). b && c.note-lives.result) w.if-live.true)
      | else-live w ↦ w.live-is ∙ w.if-live.false ∙ sym (ap (λ (b : Bool). b && c.note-lives.result) w.if-live.false)
    ] in
    record {
      each = ap length c.note-lives.ensures.found ∙ length-noted x.file cs bs c.loop-file.invariant.each;
      found = note_found (drop i c.args.files.now) (drop (i + 1) c.args.files.now) cs bs next _ x split c.note-lives.ensures.found c.loop-file.invariant.found;
      lives = note_lives (drop i c.args.files.now) (drop (i + 1) c.args.files.now) cs bs next x live c.if-live.live c.note-lives.result _ split c.note-lives.ensures.found c.note-lives.ensures.lives both c.loop-file.invariant.lives;
    }
