use Rattle.std.proofs.Common.{◌≡◌, ◌∙◌, List, Bool, ap, sym, subst, map, ◌∷◌, []}
use Rattle.std.specs.BTreeMap.{get}
use Rattle.std.specs.Ordering.{nat_cmp}
use Rattle.tablet_state.specs.Stands.{told_file}
use Rattle.core_recover.specs.Naming.{Clashes, Noted, Notes, told_in, told_of}
use Rattle.core_recover.proofs.NamingFacts.{at_index, clashes_at, one_rowset, rowsets_join, noted_next}
use Rattle.core_recover.proofs.naming.note_version.Goals as goal

pub returns-then-not-branch : goal.returns-then-not-branch
returns-then-not-branch c =
    subst (λ rs. Clashes (told_of rs) (get nat_cmp c.args.noted.now)) c.rowsets-files-items.ensures
    (clashes_at (λ rs. told_of rs) rowsets_join c.rowsets-files-items.result.now c.loop-files.files-index c.files-item.result (get nat_cmp c.args.noted.now) (get nat_cmp c.loop-files.noted) (at_index c.rowsets-files-items.result.now c.loop-files.files-index c.files-item.result c.loop-files-test.true c.files-item.is) c.loop-files.invariant
    (subst (λ (b : Bool). Noted b (told_of (c.files-item.result ∷ [])) (get nat_cmp c.loop-files.noted) (get nat_cmp c.note_files.new.noted)) c.if-not-branch.true (subst (λ fs. Noted c.in_ok-note_files.field-0 fs (get nat_cmp c.loop-files.noted) (get nat_cmp c.note_files.new.noted)) (ap (map told_file) c.as_slice.ensures ∙ sym (one_rowset c.files-item.result)) c.in_ok-note_files.ensures)))

pub loop-files-preserved : goal.loop-files-preserved
loop-files-preserved c =
    noted_next (λ rs. told_of rs) rowsets_join c.rowsets-files-items.result.now c.loop-files.files-index c.files-item.result (get nat_cmp c.args.noted.now) (get nat_cmp c.loop-files.noted) (get nat_cmp c.note_files.new.noted) (at_index c.rowsets-files-items.result.now c.loop-files.files-index c.files-item.result c.loop-files-test.true c.files-item.is) c.loop-files.invariant
    (subst (λ (b : Bool). Noted b (told_of (c.files-item.result ∷ [])) (get nat_cmp c.loop-files.noted) (get nat_cmp c.note_files.new.noted)) c.if-not-branch.false (subst (λ fs. Noted c.in_ok-note_files.field-0 fs (get nat_cmp c.loop-files.noted) (get nat_cmp c.note_files.new.noted)) (ap (map told_file) c.as_slice.ensures ∙ sym (one_rowset c.files-item.result)) c.in_ok-note_files.ensures))
