use Rattle.version_journal.proofs.ReadImages.{damaged_says_nothing, says_one}
use Rattle.version_journal.proofs.laws.damages.Goals as goal

pub returns-clause-one : goal.returns-clause-one
returns-clause-one c = says_one

pub returns-clause-nothing : goal.returns-clause-nothing
returns-clause-nothing c = damaged_says_nothing
