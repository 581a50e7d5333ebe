use Rattle.pk_model.proofs.ReplyLaws.{undamaged-append, undamaged-before, undamaged-rest}
use Rattle.pk_model.proofs.laws.undamaged_histories.Goals as goal

pub returns-clause-appends : goal.returns-clause-appends
returns-clause-appends c = undamaged-append

pub returns-clause-before : goal.returns-clause-before
returns-clause-before c = undamaged-before

pub returns-clause-rest : goal.returns-clause-rest
returns-clause-rest c = undamaged-rest
