use Rattle.pk_model.proofs.LineLaws.{else-only-takes, write-leaves-row}
use Rattle.pk_model.proofs.laws.loads_that_write.Goals as goal

pub returns-clause-row : goal.returns-clause-row
returns-clause-row c = write-leaves-row

pub returns-clause-only_takes : goal.returns-clause-only_takes
returns-clause-only_takes c = else-only-takes
