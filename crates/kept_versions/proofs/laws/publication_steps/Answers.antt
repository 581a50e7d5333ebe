use Rattle.kept_versions.proofs.StepFacts as facts
use Rattle.kept_versions.proofs.laws.publication_steps.Goals as goal

pub returns-clause-steps : goal.returns-clause-steps
returns-clause-steps c = facts.publication_steps

pub returns-clause-numbers : goal.returns-clause-numbers
returns-clause-numbers c = facts.numbers_advance
