use Rattle.std.proofs.Common.{◌≡◌, ◌+◌, sym, subst, ℕ, Some}
use Rattle.pk_model.specs.declared.books.Book.{Book}
use Rattle.pk_model.specs.Books.{rows_at}
use Rattle.pk_model.specs.Tables.{Rows}
use Rattle.snapshot_scan.specs.Snapshots.{fault_count}
use Rattle.core_partial.specs.Found.{IsFoundOf}
use Rattle.core_partial.specs.Prepared.{WasLocatedIn}
use Rattle.tablet_state.specs.State.{Has}
use Rattle.tablet_run.proofs.PartialEnds.{at-rows, on-damage, prepared-count, published-ends, some-rows, unready-ends}
use Rattle.tablet_run.proofs.partials.publish_found.Goals as goal

pub returns-in-Ok : goal.returns-in-Ok
returns-in-Ok g c =
    let n = (g.S.Maker.FileMaker.view c.args.maker.now).faults + fault_count c.args.found.now.snapshot.parts in
    let m = (g.S.Maker.FileMaker.view c.prepare_partial.new.maker).faults + fault_count c.prepare_partial.new.found.snapshot.parts in
    let e = c.publish_partial.ensures in
    let st = c.args.state.now in
    let found = c.args.found.now in
    let was : (b : Book) → Has g.S.Store.view st b → WasLocatedIn b c.in-Ok.prepared =
    λ b has m at. c.in-Ok.ensures.over m (at-rows (IsFoundOf found) (rows_at b found.snapshot.version) m
    (subst (λ v. rows_at b v ≡ Some m) c.in-Ok.ensures.version at) (c.requires.stands b has)) in
    published-ends g.S.Store.view c.args.place c.args.load c.args.state.now c.publish_partial.new.state c.in-Ok.prepared.load c.publish_partial.result n m
    c.in-Ok.ensures.load (prepared-count c.in-Ok.prepared _ _ c.in-Ok.ensures.cause)
    (λ b has. e.turn b has (was b has)) (λ b has. e.any_moment b has (was b has)) (λ b has. e.intact b has (was b has)) e.tells e.shut e.closed e.contents e.honest e.faults e.worn e.stays_worn

pub returns-in-Err : goal.returns-in-Err
returns-in-Err g c =
    let n = (g.S.Maker.FileMaker.view c.args.maker.now).faults + fault_count c.args.found.now.snapshot.parts in
    let m = (g.S.Maker.FileMaker.view c.prepare_partial.new.maker).faults + fault_count c.prepare_partial.new.found.snapshot.parts in
    unready-ends g.S.Store.view c.args.place c.args.load c.args.state.now c.in-Err.fault n m c.in-Err.ensures.cause
    (λ b has. on-damage c.in-Err.fault _ (λ d. ⊥) (λ d none. some-rows (rows_at b c.args.found.now.snapshot.version) (IsFoundOf c.args.found.now) (c.requires.stands b has) none) c.in-Err.ensures.intact)
