use Rattle.std.proofs.Common.{◌≡◌, ◌∙◌, ◌+◌, ◌-◌, ◌^◌, min, refl, ap, sym, subst, ℕ, Some, None}
use Rattle.pk_model.specs.declared.calls.Call.TheVariants as call
use Rattle.pk_model.specs.declared.calls.Want.TheVariants.{Latest}
use Rattle.pk_model.specs.declared.calls.Reply.TheVariants as reply
use Rattle.pk_model.specs.Books.{rows_at}
use Rattle.pk_model.specs.Tables.{Rows}
use Rattle.snapshot_scan.specs.Snapshots.{SnapshotView, fault_count}
use Rattle.core_publish.specs.Replies as told
use Rattle.core_partial.specs.Found.{FoundView, IsFoundOf}
use Rattle.tablet_state.specs.Contents.{current_number}
use Rattle.tablet_state.specs.State.{Steps, faults_of}
use Rattle.tablet_run.specs.Doing.{faults_beside}
use Rattle.tablet_run.proofs.LaneFacts.{at-none, at-some, idle, tells-shut}
use Rattle.tablet_run.proofs.LendFacts.{found-stands}
use Rattle.tablet_run.proofs.PartialEnds.{back-count, ends-rest, found-count, opened-open}
use Rattle.tablet_run.proofs.PartialLaws.{found-does, unfound-does}
use Rattle.tablet_run.proofs.partials.publish_partly.Goals as goal

pub returns-in-None : goal.returns-in-None
returns-in-None g c = λ j name is read.
    let e = c.locate-reply.ensures in
    let old = c.args.state.now in
    let r = c.locate-reply.result.0 in
    unfound-does g.S.Store.view j c.args.place name is old c.locate-reply.new.state c.args.load r _ read
    (λ b has. e.turn b c.args.place has)
    (at-none ((v : ℕ) → r ≡ reply.Opened v → ⊥) c.locate-reply.result.1 c.in-None.is e.none)
    e.only (tells-shut old.closed r e.tells) e.closed e.contents e.calm e.faults

pub publish_found-done-requires-clause-open : goal.publish_found-done-requires-clause-open
publish_found-done-requires-clause-open g c =
    let e = c.locate-reply.ensures in
    let found = c.in-Some.found in
    let opened = at-some (λ (f : FoundView). c.locate-reply.result.0 ≡ reply.Opened f.snapshot.version) c.locate-reply.result.1 found c.in-Some.is e.opened in
    e.closed ∙ opened-open c.args.state.now.closed found.snapshot.version (subst (λ r. told.TellsShut c.args.state.now.closed r) opened e.tells)

pub publish_found-done-requires-clause-stands : goal.publish_found-done-requires-clause-stands
publish_found-done-requires-clause-stands g c =
    let e = c.locate-reply.ensures in
    let old = c.args.state.now in
    let found = c.in-Some.found in
    let opened = at-some (λ (f : FoundView). c.locate-reply.result.0 ≡ reply.Opened f.snapshot.version) c.locate-reply.result.1 found c.in-Some.is e.opened in
    found-stands g.S.Store.view old c.locate-reply.new.state found.snapshot.version (IsFoundOf found) e.lends
    (λ b has. at-some (λ (f : FoundView). (m : Rows) → rows_at b f.snapshot.version ≡ Some m → IsFoundOf f m) c.locate-reply.result.1 found c.in-Some.is (e.stands b has))
    (at-some (λ (f : FoundView). f.snapshot.version ≡ current_number old.contents) c.locate-reply.result.1 found c.in-Some.is e.current)
    (opened-open old.closed found.snapshot.version (subst (λ r. told.TellsShut old.closed r) opened e.tells))

pub returns-in-Some : goal.returns-in-Some
returns-in-Some g c = λ j name is read.
    let view = g.S.Store.view in
    let e = c.locate-reply.ensures in
    let old = c.args.state.now in
    let mid = c.locate-reply.new.state in
    let end = c.publish_found-done.new.state in
    let left = c.give_back_snapshot.new.self in
    let found = c.in-Some.found in
    let opened = at-some (λ (f : FoundView). c.locate-reply.result.0 ≡ reply.Opened f.snapshot.version) c.locate-reply.result.1 found c.in-Some.is e.opened in
    let none = at-some (λ (f : FoundView). fault_count f.snapshot.parts ≡ 0) c.locate-reply.result.1 found c.in-Some.is e.unfailed in
    let before = (g.S.Maker.FileMaker.view c.args.maker.now).faults in
    let now = (g.S.Maker.FileMaker.view c.publish_found-done.new.maker).faults in
    let k = fault_count c.publish_found-done.new.found.snapshot.parts in
    found-does view j c.args.place name is old mid left c.args.load found.snapshot.version (faults_beside view old before) (faults_beside view mid (before + fault_count found.snapshot.parts)) (faults_beside view left now) c.publish_found-done.result
    read
    (λ b has. subst (λ r. Steps view mid b c.args.place (call.Open Latest) r) opened (e.turn b c.args.place has))
    (tells-shut old.closed (reply.Opened found.snapshot.version) (subst (λ r. told.TellsShut old.closed r) opened e.tells))
    e.closed e.contents e.calm
    (found-count (faults_of view old) (faults_of view mid) before (fault_count found.snapshot.parts) e.faults none)
    (ends-rest view mid.contents.schema c.args.load (c.args.place + 1) mid end left _ _ (faults_beside view left now) c.publish_found-done.result c.publish_found-done.ensures
    (idle view end left c.give_back_snapshot.ensures.has c.give_back_snapshot.ensures.rests)
    (back-count (faults_of view end) now k (faults_of view left) (c.give_back_snapshot.ensures.faults ∙ ap (λ (s : SnapshotView). min (faults_of view end + fault_count s.parts) (2 ^ 64 - 1)) c.into_snapshot.ensures)))
