use Rattle.std.proofs.Common.{◌≡◌, sym, subst, ℕ, Some, None}
use Rattle.pk_model.specs.declared.books.Book.{Book}
use Rattle.pk_model.specs.declared.calls.Call.TheVariants as call
use Rattle.pk_model.specs.declared.calls.Reply.TheVariants as reply
use Rattle.pk_model.specs.Books.{rows_at}
use Rattle.pk_model.specs.Tables.{Rows}
use Rattle.snapshot_scan.specs.Snapshots.{IsSnapshotOf, SnapshotView}
use Rattle.core_publish.specs.Replies as told
use Rattle.tablet_state.specs.State.{Steps}
use Rattle.tablet_run.proofs.DoingLaws.{scan-does, unopened-does}
use Rattle.tablet_run.proofs.LaneFacts.{at-none, at-some, tells-shut}
use Rattle.tablet_run.proofs.lanes.scan_version.Goals as goal

pub returns-in-None : goal.returns-in-None
returns-in-None g c = λ j n is.
    let e = c.open_version-reply.ensures in
    let old = c.args.state.now in
    let r = c.open_version-reply.result.0 in
    unopened-does g.S.Store.view j c.args.place c.args.want is old c.open_version-reply.new.state r n
    (λ b has. e.turn b c.args.place has)
    (at-none ((v : ℕ) → r ≡ reply.Opened v → ⊥) c.open_version-reply.result.1 c.in-None.is e.none)
    e.only (tells-shut old.closed r e.tells) e.closed e.contents e.calm e.faults

pub returns-in-Some : goal.returns-in-Some
returns-in-Some g c = λ j n is.
    let view = g.S.Store.view in
    let e = c.open_version-reply.ensures in
    let old = c.args.state.now in
    let mid = c.open_version-reply.new.state in
    let snap = c.in-Some.snapshot in
    let opened : c.open_version-reply.result.0 ≡ reply.Opened snap.version =
    at-some (λ (s : SnapshotView). c.open_version-reply.result.0 ≡ reply.Opened s.version) c.open_version-reply.result.1 snap c.in-Some.is e.opened in
    scan-does view j c.args.place c.args.want is old mid c.rows_told.new.state snap.version c.rows_told.result n
    (λ b has. subst (λ r. Steps view mid b c.args.place (call.Open c.args.want) r) opened (e.turn b c.args.place has))
    (λ b has m kept. c.rows_told.ensures.rows m (at-some (λ (s : SnapshotView). (m : Rows) → rows_at b s.version ≡ Some m → IsSnapshotOf s m) c.open_version-reply.result.1 snap c.in-Some.is (e.stands b has) m kept))
    (tells-shut old.closed (reply.Opened snap.version) (subst (λ r. told.TellsShut old.closed r) opened e.tells))
    e.closed e.contents e.calm e.faults c.rows_told.ensures.of c.rows_told.ensures.rose c.rows_told.ensures.idle
