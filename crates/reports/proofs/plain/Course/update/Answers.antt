use Rattle.reports.proofs.PlainSteps.{on-ok, partial-does, partial-refused-does}
use Rattle.reports.proofs.plain.Course.update.Goals as goal

pub returns-in-Opened : goal.returns-in-Opened
returns-in-Opened c = on-ok c.last.result _ _ (λ ends j name is read.
    partial-does c.args.schema.now c.args.number c.args.self.now c.take.new.self c.last.new.self j c.columns-valid.ensures.valid
    c.in_ok-refused.refused c.in-Opened.field-0 name c.args.load is read c.requires.lawful c.in-Opened.is c.in_ok-refused.ensures ends)
    c.last.ensures

pub returns-in_default : goal.returns-in_default
returns-in_default c = on-ok c.tell.result _ _ (λ told j name is read.
    partial-refused-does c.args.schema.now c.args.number c.args.self.now c.take.new.self c.tell.new.self j c.columns-valid.ensures.valid
    c.in_ok-refused.refused name c.args.load is read c.in_default.not-Opened c.in_ok-refused.ensures told)
    c.tell.ensures
