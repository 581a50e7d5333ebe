use Rattle.std.proofs.Common.{◌≡◌, ◌⊎◌, ◌∙◌, ap, sym, subst, IsTrue, Bool, None, Some}
use Rattle.pk_values.specs.Schemas.{schema_fault}
use Rattle.dev_traits.specs.View.{EachImage, LeavesOnly, Told}
use Rattle.pk_model.specs.Books.{new_book}
use Rattle.version_journal.specs.Images.{HasNoRecord}
use Rattle.version_journal.specs.Journals.{ReadsAs}
use Rattle.tablet_state.specs.Stands.{Stands}
use Rattle.core_recover.specs.Creating.{HasBegun, first_standing, new_contents}
use Rattle.core_recover.specs.Areas.{IsEmptyOrBlank}
use Rattle.core_recover.proofs.CountFacts.{counted_so, never_fell, rose_ok, rose_one, uncounted_so}
use Rattle.core_recover.proofs.KeepFacts.{read_each}
use Rattle.core_recover.proofs.NewFacts.{stands_or_none}
use Rattle.core_recover.proofs.creating.create.Goals as goal

pub new_state-requires-clause-good : goal.new_state-requires-clause-good
new_state-requires-clause-good g c = subst (λ x. schema_fault x.columns x.keys ≡ None) (sym c.in-Ok.ensures.schema) c.in-Ok.ensures.good

pub new_state-requires-clause-reads : goal.new_state-requires-clause-reads
new_state-requires-clause-reads g c = subst (λ x. Told (g.S.Store.view c.begin.new.store) (ReadsAs c.in-Ok.begun.journal (Some (first_standing x)))) (sym c.in-Ok.ensures.schema) c.in-Ok.ensures.reads

pub new_state-requires-clause-begun : goal.new_state-requires-clause-begun
new_state-requires-clause-begun g c = λ honest.
    subst (λ x. HasBegun c.in-Ok.begun.journal (first_standing x) (g.S.Store.view c.begin.new.store)) (sym c.in-Ok.ensures.schema) (c.in-Ok.ensures.begun (subst (λ (t : Bool). IsTrue t) c.begin.ensures.honest honest))

pub returns-in-Ok-clause-book : goal.returns-in-Ok-clause-book
returns-in-Ok-clause-book g c = λ honest. c.new_state.ensures.book (subst (λ (t : Bool). IsTrue t) (sym c.begin.ensures.honest) honest)

pub returns-in-Ok-clause-any_moment : goal.returns-in-Ok-clause-any_moment
returns-in-Ok-clause-any_moment g c = λ honest.
    subst (λ st. LeavesOnly (λ left. HasNoRecord left ⊎ Stands c.args.schema new_book left) (g.S.Store.view c.args.store) (g.S.Store.view st)) (sym c.new_state.ensures.store)
    (stands_or_none c.args.schema (g.S.Store.view c.args.store) (g.S.Store.view c.begin.new.store) (c.begin.ensures.any_moment honest (c.requires honest)))

pub returns-in-Err-clause-any_moment : goal.returns-in-Err-clause-any_moment
returns-in-Err-clause-any_moment g c = λ honest.
    stands_or_none c.args.schema (g.S.Store.view c.args.store) (g.S.Store.view c.begin.new.store) (c.begin.ensures.any_moment honest (c.requires honest))

pub returns-in-Ok-clause-counts_ok : goal.returns-in-Ok-clause-counts_ok
returns-in-Ok-clause-counts_ok g c = rose_ok _ _ _ _ c.in-Ok.ensures.cause (c.new_state.ensures.faults c.in-Ok.ensures.maker)

pub returns-in-Ok-clause-made : goal.returns-in-Ok-clause-made
returns-in-Ok-clause-made g c = λ image told.
    let is = ap (λ st. (g.S.Store.view st).seen) (sym c.new_state.ensures.store) ∙ told in
    record { said = (c.in-Ok.ensures.reads image is).says; none = c.in-Ok.ensures.none image is; index = c.in-Ok.ensures.index image is }

pub returns-in-Ok-clause-index : goal.returns-in-Ok-clause-index
returns-in-Ok-clause-index g c = λ honest. subst (λ st. EachImage (g.S.Store.view st) (IsEmptyOrBlank 2)) (sym c.new_state.ensures.store) (c.in-Ok.ensures.each_index honest)

pub returns-in-Ok-clause-contents : goal.returns-in-Ok-clause-contents
returns-in-Ok-clause-contents g c = c.new_state.ensures.contents ∙ ap new_contents c.in-Ok.ensures.schema

pub returns-in-Ok-clause-still : goal.returns-in-Ok-clause-still
returns-in-Ok-clause-still g c = λ honest.
    let still = subst (λ (t : Bool). IsTrue t) (sym c.begin.ensures.honest) honest in
    subst (λ st. Told (g.S.Store.view st) (λ image. HasNoRecord image ⊎ Stands c.args.schema new_book image)) (sym c.new_state.ensures.store)
    (read_each (g.S.Store.view c.begin.new.store) (λ image. HasNoRecord image ⊎ Stands c.args.schema new_book image) (g.met.S.Store.honest_reads c.begin.new.store still)
    (stands_or_none c.args.schema (g.S.Store.view c.args.store) (g.S.Store.view c.begin.new.store) (c.begin.ensures.any_moment honest (c.requires honest))).now)

pub returns-in-Err-clause-still : goal.returns-in-Err-clause-still
returns-in-Err-clause-still g c = λ honest.
    let still = subst (λ (t : Bool). IsTrue t) (sym c.begin.ensures.honest) honest in
    read_each (g.S.Store.view c.begin.new.store) (λ image. HasNoRecord image ⊎ Stands c.args.schema new_book image) (g.met.S.Store.honest_reads c.begin.new.store still)
    (stands_or_none c.args.schema (g.S.Store.view c.args.store) (g.S.Store.view c.begin.new.store) (c.begin.ensures.any_moment honest (c.requires honest))).now

pub returns-in-Err-clause-counted : goal.returns-in-Err-clause-counted
returns-in-Err-clause-counted g c = counted_so _ _ c.in-Err.fault c.in-Err.ensures.cause

pub returns-in-Ok-clause-uncounted : goal.returns-in-Ok-clause-uncounted
returns-in-Ok-clause-uncounted g c =
    let none = c.new_state.ensures.uncounted c.in-Ok.ensures.maker in
    uncounted_so g.S.Store.view (g.S.Store.view c.args.store).faults c.begin.new.store _ _ c.new_state.ensures.store c.in-Ok.ensures.cause none.0 none.1
