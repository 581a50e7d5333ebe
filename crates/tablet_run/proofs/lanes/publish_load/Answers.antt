use Rattle.std.proofs.Common.{◌≡◌, refl, ap, sym, subst, ◌+◌, ◌∙◌, length, None}
use Rattle.pk_values.specs.Schemas.{Layout, schema_fault}
use Rattle.reports.specs.Bearing.{told_by}
use Rattle.tablet_run.proofs.DoingLaws.{unmade-does, whole-load}
use Rattle.tablet_run.proofs.LaneFacts.{failed-made, published-does, unmade, well-made}
use Rattle.tablet_run.proofs.lanes.publish_load.Goals as goal

pub prepare-requires-clause-whole : goal.prepare-requires-clause-whole
prepare-requires-clause-whole g c =
    subst (λ (s : Layout). s.keys + length c.args.load.given ≡ length s.columns) (sym c.schema-2.ensures)
    (whole-load c.args.state.now.contents.schema c.args.load.given (subst (λ (s : Layout). schema_fault s.columns s.keys ≡ None) c.schema.ensures c.columns-valid.ensures.valid) c.requires.whole)

pub returns-in-Ok : goal.returns-in-Ok
returns-in-Ok g c = λ j name is read.
    published-does g.S.Store.view j c.args.place name is c.args.state.now c.publish.new.state c.args.load c.in-Ok.prepared.load c.publish.result
    (g.S.Maker.FileMaker.view c.args.maker.now).faults (g.S.Maker.FileMaker.view c.prepare.new.maker).faults read c.in-Ok.ensures.load
    (well-made c.in-Ok.prepared (g.S.Maker.FileMaker.view c.args.maker.now).faults (g.S.Maker.FileMaker.view c.prepare.new.maker).faults c.in-Ok.ensures.cause)
    c.publish.ensures.turn c.publish.ensures.any_moment c.publish.ensures.intact c.publish.ensures.tells c.publish.ensures.shut c.publish.ensures.closed
    c.publish.ensures.contents c.publish.ensures.honest c.publish.ensures.faults c.publish.ensures.worn c.publish.ensures.stays_worn

pub returns-in-Err : goal.returns-in-Err
returns-in-Err g c = λ j name is read.
    let before = (g.S.Maker.FileMaker.view c.args.maker.now).faults in
    let now = (g.S.Maker.FileMaker.view c.prepare.new.maker).faults in
    let cause = failed-made c.in-Err.fault before now c.in-Err.ensures.cause in
    unmade g.S.Store.view j c.args.place name is c.args.state.now c.args.load c.in-Err.fault c.from.result before now read c.from.ensures cause.0 cause.1
