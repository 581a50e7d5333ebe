use Rattle.pk_model.proofs.TaskLaws.{as-wide, each-call, may-come, narrower}
use Rattle.pk_model.proofs.laws.tasks_of_calls.Goals as goal

pub returns-clause-each : goal.returns-clause-each
returns-clause-each c = each-call

pub returns-clause-narrower : goal.returns-clause-narrower
returns-clause-narrower c = narrower

pub returns-clause-others : goal.returns-clause-others
returns-clause-others c = as-wide

pub returns-clause-replies : goal.returns-clause-replies
returns-clause-replies c = may-come
