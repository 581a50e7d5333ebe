use Rattle.std.proofs.Common.{ap, false}
use Rattle.reports.specs.Jobs.{is_partial}
use Rattle.reports.proofs.PlainSteps.{load-calls, load-names, load-tells, on-ok, refused-does}
use Rattle.reports.proofs.plain.Course.load.Goals as goal

pub returns-in-Ok : goal.returns-in-Ok
returns-in-Ok c = on-ok c.whole.result _ _ (λ does j name is same.
    does j (load-tells j.job.act name is) (load-calls c.args.schema.now j name c.args.file.now c.in-Ok.load is same c.in-Ok.ensures.ok))
    c.whole.ensures

pub returns-in-Err : goal.returns-in-Err
returns-in-Err c = on-ok c.tell.result _ _ (λ told j name is same.
    refused-does c.args.schema.now c.args.number c.in-Err.refused false c.args.file.now c.args.self.now c.tell.new.self j (load-names j.job.act name is) (ap is_partial is) same c.in-Err.ensures.fault told)
    c.tell.ensures
