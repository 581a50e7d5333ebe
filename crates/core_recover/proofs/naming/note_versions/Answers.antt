use Rattle.std.proofs.Common.{◌≡◌, ◌∙◌, List, Bool, ap, sym, subst, map, ◌∷◌, []}
use Rattle.std.specs.BTreeMap.{get}
use Rattle.std.specs.Ordering.{nat_cmp}
use Rattle.tablet_state.specs.Stands.{told_file}
use Rattle.core_recover.specs.Naming.{Clashes, Noted, Notes, told_in, told_of}
use Rattle.core_recover.proofs.NamingFacts.{at_index, clashes_at, one_version, versions_join, noted_next}
use Rattle.core_recover.proofs.naming.note_versions.Goals as goal

pub returns-then-not-branch : goal.returns-then-not-branch
returns-then-not-branch c =
    clashes_at (λ vs. told_in vs) versions_join c.args.versions.now c.loop-version.version-index c.version-item.result (get nat_cmp c.args.noted.now) (get nat_cmp c.loop-version.noted) (at_index c.args.versions.now c.loop-version.version-index c.version-item.result c.loop-version-test.true c.version-item.is) c.loop-version.invariant
    (subst (λ (b : Bool). Noted b (told_in (c.version-item.result ∷ [])) (get nat_cmp c.loop-version.noted) (get nat_cmp c.note_version.new.noted)) c.if-not-branch.true (subst (λ fs. Noted c.in_ok-note_version.field-0 fs (get nat_cmp c.loop-version.noted) (get nat_cmp c.note_version.new.noted)) (sym (one_version c.version-item.result)) c.in_ok-note_version.ensures))

pub loop-version-preserved : goal.loop-version-preserved
loop-version-preserved c =
    noted_next (λ vs. told_in vs) versions_join c.args.versions.now c.loop-version.version-index c.version-item.result (get nat_cmp c.args.noted.now) (get nat_cmp c.loop-version.noted) (get nat_cmp c.note_version.new.noted) (at_index c.args.versions.now c.loop-version.version-index c.version-item.result c.loop-version-test.true c.version-item.is) c.loop-version.invariant
    (subst (λ (b : Bool). Noted b (told_in (c.version-item.result ∷ [])) (get nat_cmp c.loop-version.noted) (get nat_cmp c.note_version.new.noted)) c.if-not-branch.false (subst (λ fs. Noted c.in_ok-note_version.field-0 fs (get nat_cmp c.loop-version.noted) (get nat_cmp c.note_version.new.noted)) (sym (one_version c.version-item.result)) c.in_ok-note_version.ensures))
