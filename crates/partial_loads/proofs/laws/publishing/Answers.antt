use Rattle.partial_loads.proofs.PublishedFacts.{in_turn_load_is_held, written_load_is_held}
use Rattle.partial_loads.proofs.ReadyFacts.{twice_made_is_ready}
use Rattle.partial_loads.proofs.laws.publishing.Goals as goal

pub returns-clause-in_turn : goal.returns-clause-in_turn
returns-clause-in_turn c = in_turn_load_is_held

pub returns-clause-located : goal.returns-clause-located
returns-clause-located c = written_load_is_held

pub returns-clause-ready : goal.returns-clause-ready
returns-clause-ready c = twice_made_is_ready
