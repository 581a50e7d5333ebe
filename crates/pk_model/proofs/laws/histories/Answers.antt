use Rattle.pk_model.proofs.ReplyLaws.{legal-append, legal-rest}
use Rattle.pk_model.proofs.HistoryLaws.{closed-stays, refusals-leave, replay-append, legal-prefix, legal-more}
use Rattle.pk_model.proofs.laws.histories.Goals as goal

pub returns-clause-goes_on : goal.returns-clause-goes_on
returns-clause-goes_on c = replay-append

pub returns-clause-prefix : goal.returns-clause-prefix
returns-clause-prefix c = legal-prefix

pub returns-clause-legal : goal.returns-clause-legal
returns-clause-legal c = legal-more

pub returns-clause-closed : goal.returns-clause-closed
returns-clause-closed c = closed-stays

pub returns-clause-refusals : goal.returns-clause-refusals
returns-clause-refusals c = refusals-leave

pub returns-clause-appends : goal.returns-clause-appends
returns-clause-appends c = legal-append

pub returns-clause-rest : goal.returns-clause-rest
returns-clause-rest c = legal-rest
