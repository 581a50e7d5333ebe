use Rattle.partial_loads.proofs.ConditionFacts.{result_is_candidate, effect_is_not_held, candidates_make}
use Rattle.partial_loads.proofs.laws.judging.Goals as goal

pub returns-clause-candidate : goal.returns-clause-candidate
returns-clause-candidate c = result_is_candidate

pub returns-clause-effect : goal.returns-clause-effect
returns-clause-effect c = effect_is_not_held

pub returns-clause-makes : goal.returns-clause-makes
returns-clause-makes c = candidates_make
