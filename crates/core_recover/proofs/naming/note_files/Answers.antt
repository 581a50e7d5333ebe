use Rattle.std.proofs.Common.{◌≡◌, ◌∙◌, List, Bool, ap, sym, subst, map, ◌∷◌, []}
use Rattle.std.specs.BTreeMap.{get}
use Rattle.std.specs.Ordering.{nat_cmp}
use Rattle.tablet_state.specs.Stands.{told_file}
use Rattle.core_recover.specs.Naming.{Clashes, Noted, Notes, told_in, told_of}
use Rattle.core_recover.proofs.NamingFacts.{at_index, clashes_at, files_join, noted_next}
use Rattle.core_recover.proofs.naming.note_files.Goals as goal

pub returns-then-not-branch : goal.returns-then-not-branch
returns-then-not-branch c =
    clashes_at (map told_file) files_join c.args.files.now c.loop-file.file-index c.file-item.result (get nat_cmp c.args.noted.now) (get nat_cmp c.loop-file.noted) (at_index c.args.files.now c.loop-file.file-index c.file-item.result c.loop-file-test.true c.file-item.is) c.loop-file.invariant
    (subst (λ (b : Bool). Noted b (map told_file (c.file-item.result ∷ [])) (get nat_cmp c.loop-file.noted) (get nat_cmp c.note_file.new.noted)) c.if-not-branch.true c.in_ok-note_file.ensures)

pub loop-file-preserved : goal.loop-file-preserved
loop-file-preserved c =
    noted_next (map told_file) files_join c.args.files.now c.loop-file.file-index c.file-item.result (get nat_cmp c.args.noted.now) (get nat_cmp c.loop-file.noted) (get nat_cmp c.note_file.new.noted) (at_index c.args.files.now c.loop-file.file-index c.file-item.result c.loop-file-test.true c.file-item.is) c.loop-file.invariant
    (subst (λ (b : Bool). Noted b (map told_file (c.file-item.result ∷ [])) (get nat_cmp c.loop-file.noted) (get nat_cmp c.note_file.new.noted)) c.if-not-branch.false c.in_ok-note_file.ensures)
