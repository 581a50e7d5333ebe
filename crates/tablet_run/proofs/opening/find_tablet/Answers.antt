use Rattle.std.proofs.Common.{◌≡◌, ◌⊎◌, subst, IsTrue}
use Rattle.std.proofs.lemmas.Result.{IfErr-weaker, IfOk-weaker}
use Rattle.dev_traits.specs.View.{Told}
use Rattle.pk_values.specs.Schemas.{Layout}
use Rattle.pk_model.specs.declared.books.Book.{Book}
use Rattle.version_journal.specs.Images.{HasNoRecord}
use Rattle.core_recover.specs.Opening.{IsWant}
use Rattle.core_recover.specs.declared.faults.OpenFault.{OpenFault}
use Rattle.core_recover.specs.declared.faults.OpenFault.TheVariants as open_fault
use Rattle.tablet_state.specs.Stands.{Stands}
use Rattle.tablet_run.specs.Stores.{IsCreated, IsUncreated}
use Rattle.tablet_run.proofs.OpenLaws.{created-found, damaged-none, recover-kept, uncreated-refuses}
use Rattle.tablet_run.proofs.opening.find_tablet.Goals as goal

pub create_tablet-requires : goal.create_tablet-requires
create_tablet-requires g c = λ h. c.in-Err.ensures.all_empty c.in-Empty.is (subst IsTrue c.in-Err.ensures.honest h)

pub returns-in-Ok-clause-found : goal.returns-in-Ok-clause-found
returns-in-Ok-clause-found g c = record {
  opened = c.in-Ok.ensures.open;
  counts = c.in-Ok.ensures.counts_ok;
  honest = c.in-Ok.ensures.honest;
  stood = λ image t b reads stands. (c.in-Ok.ensures.book reads.honest image reads.seen t b stands, c.in-Ok.ensures.schema reads.honest image reads.seen t b stands);
  fresh = λ image reads none. absurd (c.in-Ok.ensures.only_empty reads.honest image reads.seen none).0;
}

pub returns-in-Empty-clause-found : goal.returns-in-Empty-clause-found
returns-in-Empty-clause-found g c =
    let view = g.S.Store.view in
    let old = c.args.store in
    let empty = subst (λ (f : OpenFault). IsTrue (view old).is_honest → Told (view old) (λ image. (t : Layout) (b : Book) → Stands t b image → IsWant f)) c.in-Empty.is c.in-Err.ensures.intact in
    IfOk-weaker c.create_tablet.result (IsCreated view c.args.schema.now c.in-Err.store) _
    (λ st made. created-found view c.args.schema.now old c.in-Err.store st empty c.in-Err.ensures.honest c.in-Err.ensures.counts_err made)
    c.create_tablet.ensures.made

pub returns-in-Empty-clause-refused : goal.returns-in-Empty-clause-refused
returns-in-Empty-clause-refused g c =
    let view = g.S.Store.view in
    let old = c.args.store in
    let empty = subst (λ (f : OpenFault). IsTrue (view old).is_honest → Told (view old) (λ image. (t : Layout) (b : Book) → Stands t b image → IsWant f)) c.in-Empty.is c.in-Err.ensures.intact in
    IfErr-weaker c.create_tablet.result (λ e. IsUncreated c.args.schema.now (view c.in-Err.store) (view e.0) e.1) _
    (λ e is. uncreated-refuses c.args.schema.now (view old) (view c.in-Err.store) (view e.0) empty c.in-Err.ensures.honest c.in-Err.ensures.counts_err e.1 is)
    c.create_tablet.ensures.refused

pub returns-in-Damaged-clause-refused : goal.returns-in-Damaged-clause-refused
returns-in-Damaged-clause-refused g c =
    let view = g.S.Store.view in
    let old = c.args.store in
    let intact = subst (λ (f : OpenFault). IsTrue (view old).is_honest → Told (view old) (λ image. (t : Layout) (b : Book) → Stands t b image → IsWant f)) c.in-Damaged.is c.in-Err.ensures.intact in
    let only : IsTrue (view old).is_honest → Told (view old) (λ image. HasNoRecord image → (c.in-Err.fault ≡ open_fault.Empty) ⊎ IsWant c.in-Err.fault) =
    λ honest image seen none. (c.in-Err.ensures.only_empty honest image seen none).1 in
    let only_damaged = subst (λ (f : OpenFault). IsTrue (view old).is_honest → Told (view old) (λ image. HasNoRecord image → (f ≡ open_fault.Empty) ⊎ IsWant f)) c.in-Damaged.is only in (
      recover-kept c.args.schema.now (view old) (view c.in-Err.store) c.in-Err.ensures.honest c.in-Err.ensures.any_moment c.in-Err.ensures.empty_left,
      damaged-none c.args.schema.now (view old) (view c.in-Err.store) (open_fault.Damaged c.in-Damaged.damaged) (λ h. h) (λ e. cc e) intact only_damaged,
      c.in-Err.ensures.damaged c.in-Damaged.damaged c.in-Damaged.is,
    )

pub returns-in-StoreFault-clause-refused : goal.returns-in-StoreFault-clause-refused
returns-in-StoreFault-clause-refused g c = (
  recover-kept c.args.schema.now (g.S.Store.view c.args.store) (g.S.Store.view c.in-Err.store) c.in-Err.ensures.honest c.in-Err.ensures.any_moment c.in-Err.ensures.empty_left,
  c.in-Err.ensures.cause c.in-StoreFault.is,
)

pub returns-in-Memory-clause-refused : goal.returns-in-Memory-clause-refused
returns-in-Memory-clause-refused g c =
    recover-kept c.args.schema.now (g.S.Store.view c.args.store) (g.S.Store.view c.in-Err.store) c.in-Err.ensures.honest c.in-Err.ensures.any_moment c.in-Err.ensures.empty_left
