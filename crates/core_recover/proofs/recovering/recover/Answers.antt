use Rattle.std.proofs.Common.{◌≡◌, ◌⊎◌, ◌∙◌, inl, inr, Err, ap, sym, subst}
use Rattle.dev_traits.specs.View.{EachImage, LeavesOnly}
use Rattle.version_journal.specs.Images.{HasNoRecord}
use Rattle.pk_model.specs.Durable.{durable}
use Rattle.tablet_state.specs.Stands.{Stands}
use Rattle.tablet_state.specs.State.{reader_faults}
use Rattle.core_recover.specs.Keeping.{HoldsRecords, ReadsNamed}
use Rattle.core_recover.specs.declared.faults.OpenFault.TheVariants as fault
use Rattle.core_recover.proofs.CountFacts.{counted_so, never_fell, rose_ok, rose_one, uncounted_so}
use Rattle.core_recover.proofs.KeepFacts.{each_left, named_readers, still_none, still_stands, unfailed}
use Rattle.core_recover.proofs.TabletFacts.{no_err}
use Rattle.core_recover.proofs.recovering.recover.Goals as goal

pub returns-in-Ok-clause-book : goal.returns-in-Ok-clause-book
returns-in-Ok-clause-book g c = λ honest image told s b stands. (c.state_of.ensures.book s (durable b) (c.in-Ok.ensures.book honest image told s b stands)).0

pub returns-in-Ok-clause-schema : goal.returns-in-Ok-clause-schema
returns-in-Ok-clause-schema g c = λ honest image told s b stands. (c.state_of.ensures.book s (durable b) (c.in-Ok.ensures.book honest image told s b stands)).1

pub returns-in-Ok-clause-any_moment : goal.returns-in-Ok-clause-any_moment
returns-in-Ok-clause-any_moment g c = λ honest image told s b stands.
    subst (λ st. LeavesOnly (λ left. (g.S.Store.view c.args.store).may_leave left ⊎ Stands s (durable b) left) (g.S.Store.view c.args.store) (g.S.Store.view st)) (sym c.state_of.ensures.store) (c.open_store.ensures.any_moment honest image told s b stands)

pub returns-in-Ok-clause-empty_left : goal.returns-in-Ok-clause-empty_left
returns-in-Ok-clause-empty_left g c = λ honest image told none.
    subst (λ st. EachImage (g.S.Store.view st) (λ left. (g.S.Store.view c.args.store).may_leave left ⊎ HasNoRecord left)) (sym c.state_of.ensures.store) (c.open_store.ensures.empty_left honest image told none)

pub returns-in-Ok-clause-held : goal.returns-in-Ok-clause-held
returns-in-Ok-clause-held g c = λ before told after told'.
    subst (λ x. HoldsRecords x before after) (sym c.state_of.ensures.contents)
    (c.in-Ok.ensures.held before told after (ap (λ st. (g.S.Store.view st).seen) (sym c.state_of.ensures.store) ∙ told'))

pub returns-in-Ok-clause-still : goal.returns-in-Ok-clause-still
returns-in-Ok-clause-still g c = λ any before told after told'.
    c.in-Ok.ensures.still (inr (λ is. no_err _ fault.StoreFault is)) before told after (ap (λ st. (g.S.Store.view st).seen) (sym c.state_of.ensures.store) ∙ told')

pub returns-in-Err-clause-still : goal.returns-in-Err-clause-still
returns-in-Err-clause-still g c = λ any. c.in-Err.ensures.still (unfailed _ c.in-Err.fault any)

pub returns-in-Ok-clause-stands : goal.returns-in-Ok-clause-stands
returns-in-Ok-clause-stands g c = λ honest before told s b stands after told'.
    still_stands s b before after (c.in-Ok.ensures.still (inl honest) before told after (ap (λ st. (g.S.Store.view st).seen) (sym c.state_of.ensures.store) ∙ told')) stands

pub returns-in-Err-clause-stands : goal.returns-in-Err-clause-stands
returns-in-Err-clause-stands g c = λ honest before told s b stands after told'. still_stands s b before after (c.in-Err.ensures.still (inl honest) before told after told') stands

pub returns-in-Ok-clause-still_empty : goal.returns-in-Ok-clause-still_empty
returns-in-Ok-clause-still_empty g c = λ honest before told none after told'.
    still_none before after (c.in-Ok.ensures.still (inl honest) before told after (ap (λ st. (g.S.Store.view st).seen) (sym c.state_of.ensures.store) ∙ told')) none

pub returns-in-Err-clause-still_empty : goal.returns-in-Err-clause-still_empty
returns-in-Err-clause-still_empty g c = λ honest before told none after told'. still_none before after (c.in-Err.ensures.still (inl honest) before told after told') none

pub returns-in-Ok-clause-each_stands : goal.returns-in-Ok-clause-each_stands
returns-in-Ok-clause-each_stands g c = λ honest s b each.
    let old = g.S.Store.view c.args.store in
    let reads = g.met.S.Store.honest_reads c.args.store honest in
    subst (λ st. EachImage (g.S.Store.view st) (Stands s (durable b))) (sym c.state_of.ensures.store)
    (each_left s b old (g.S.Store.view c.open_store.new.store) each (c.open_store.ensures.any_moment honest reads.0 reads.1 s (durable b) (each reads.0 reads.2)))

pub returns-in-Err-clause-each_stands : goal.returns-in-Err-clause-each_stands
returns-in-Err-clause-each_stands g c = λ honest s b each.
    let old = g.S.Store.view c.args.store in
    let reads = g.met.S.Store.honest_reads c.args.store honest in
    each_left s b old (g.S.Store.view c.open_store.new.store) each (c.open_store.ensures.any_moment honest reads.0 reads.1 s (durable b) (each reads.0 reads.2))

pub returns-in-Err-clause-counted : goal.returns-in-Err-clause-counted
returns-in-Err-clause-counted g c = counted_so _ _ c.in-Err.fault c.in-Err.ensures.cause

pub returns-in-Ok-clause-uncounted : goal.returns-in-Ok-clause-uncounted
returns-in-Ok-clause-uncounted g c =
    uncounted_so g.S.Store.view (g.S.Store.view c.args.store).faults c.open_store.new.store _ _ c.state_of.ensures.store c.in-Ok.ensures.cause (c.state_of.ensures.maker ∙ c.in-Ok.ensures.unfailed.0)
    (ap reader_faults c.state_of.ensures.segments ∙ c.in-Ok.ensures.unfailed.1)

pub returns-in-Ok-clause-files : goal.returns-in-Ok-clause-files
returns-in-Ok-clause-files g c = λ before told after told'. c.open_store.ensures.files before told after (ap (λ st. (g.S.Store.view st).seen) (sym c.state_of.ensures.store) ∙ told')

pub returns-in-Ok-clause-readers : goal.returns-in-Ok-clause-readers
returns-in-Ok-clause-readers g c = λ before told. named_readers before c.state_of.ensures.contents c.state_of.ensures.segments (c.in-Ok.ensures.readers before told)

pub returns-in-Err-clause-settled : goal.returns-in-Err-clause-settled
returns-in-Err-clause-settled g c = λ is. c.in-Err.ensures.settled (ap Err is)
