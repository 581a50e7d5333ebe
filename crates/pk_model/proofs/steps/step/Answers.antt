use Rattle.pk_model.proofs.HistoryLaws.{wanted}
use Rattle.pk_model.proofs.VersionLaws.{step-grows}
use Rattle.pk_model.proofs.steps.step.Goals as goal

pub returns-in-None-clause-may_want : goal.returns-in-None-clause-may_want
returns-in-None-clause-may_want c = wanted c.args.book.now c.args.call.now c.open_step.result c.in-None.is c.open_step.ensures.takes c.open_step.ensures.gives_way

pub returns-in-None-clause-grows : goal.returns-in-None-clause-grows
returns-in-None-clause-grows c = step-grows c.args.schema.now c.args.book.now c.args.place c.args.call.now c.open_step.result c.open_step.new.book c.open_step.ensures.changes c.open_step.ensures.err
