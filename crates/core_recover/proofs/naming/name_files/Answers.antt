use Rattle.std.proofs.Common.{◌≡◌, Bool, subst}
use Rattle.std.specs.BTreeMap.{get}
use Rattle.std.specs.Ordering.{nat_cmp}
use Rattle.core_recover.specs.Naming.{Noted, told_in, told_of}
use Rattle.core_recover.proofs.NamingFacts.{clash_current, clash_older, named_whole, no_names}
use Rattle.core_recover.proofs.naming.name_files.Goals as goal

pub returns-then-not-branch : goal.returns-then-not-branch
returns-then-not-branch c =
    clash_older c.args.older.now c.args.current.now (get nat_cmp c.new-noted.result) (no_names c.new-noted.result c.new-noted.ensures.empty)
    (subst (λ (b : Bool). Noted b (told_in c.args.older.now) (get nat_cmp c.new-noted.result) (get nat_cmp c.note_versions.new.noted)) c.if-not-branch.true c.in_ok-note_versions.ensures)

pub returns-then-not-branch-2 : goal.returns-then-not-branch-2
returns-then-not-branch-2 c =
    clash_current c.args.older.now c.args.current.now (get nat_cmp c.new-noted.result) (get nat_cmp c.note_versions.new.noted) (no_names c.new-noted.result c.new-noted.ensures.empty)
    (subst (λ (b : Bool). Noted b (told_in c.args.older.now) (get nat_cmp c.new-noted.result) (get nat_cmp c.note_versions.new.noted)) c.if-not-branch.false c.in_ok-note_versions.ensures)
    (subst (λ (b : Bool). Noted b (told_of c.args.current.now) (get nat_cmp c.note_versions.new.noted) (get nat_cmp c.note_version.new.noted)) c.if-not-branch-2.true c.in_ok-note_version.ensures)

pub returns : goal.returns
returns c =
    named_whole c.args.older.now c.args.current.now (get nat_cmp c.new-noted.result) (get nat_cmp c.note_versions.new.noted) c.note_version.new.noted.entries _ (no_names c.new-noted.result c.new-noted.ensures.empty)
    (subst (λ (b : Bool). Noted b (told_in c.args.older.now) (get nat_cmp c.new-noted.result) (get nat_cmp c.note_versions.new.noted)) c.if-not-branch.false c.in_ok-note_versions.ensures)
    (subst (λ (b : Bool). Noted b (told_of c.args.current.now) (get nat_cmp c.note_versions.new.noted) (get nat_cmp c.note_version.new.noted)) c.if-not-branch-2.false c.in_ok-note_version.ensures)
    c.listed.ensures.ordered c.in_ok-listed.ensures.named
