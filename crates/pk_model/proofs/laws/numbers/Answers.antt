use Rattle.pk_model.proofs.HistoryLaws.{few-stay, numbers-are-few}
use Rattle.pk_model.proofs.laws.numbers.Goals as goal

pub returns-clause-few_versions : goal.returns-clause-few_versions
returns-clause-few_versions c = few-stay

pub returns-clause-counts : goal.returns-clause-counts
returns-clause-counts c = numbers-are-few
