use Rattle.partial_loads.proofs.SettleFacts.{made_by_key, moved_are_again, settled_are_results, settled_makes_load, settled_moves_move, settled_is_ready, dead_of_both, settled_has_row, found_are_in, found_are_dead, located_load_stands, located_load_is_held, stale_is_wrong}
use Rattle.partial_loads.proofs.laws.settling.Goals as goal

pub returns-clause-made : goal.returns-clause-made
returns-clause-made c = made_by_key

pub returns-clause-again : goal.returns-clause-again
returns-clause-again c = moved_are_again

pub returns-clause-results : goal.returns-clause-results
returns-clause-results c = settled_are_results

pub returns-clause-makes : goal.returns-clause-makes
returns-clause-makes c = settled_makes_load

pub returns-clause-moves : goal.returns-clause-moves
returns-clause-moves c = settled_moves_move

pub returns-clause-ready : goal.returns-clause-ready
returns-clause-ready c = settled_is_ready

pub returns-clause-dead : goal.returns-clause-dead
returns-clause-dead c = dead_of_both

pub returns-clause-rowset : goal.returns-clause-rowset
returns-clause-rowset c = settled_has_row

pub returns-clause-found_in : goal.returns-clause-found_in
returns-clause-found_in c = found_are_in

pub returns-clause-found : goal.returns-clause-found
returns-clause-found c = found_are_dead

pub returns-clause-stands : goal.returns-clause-stands
returns-clause-stands c = located_load_stands

pub returns-clause-held : goal.returns-clause-held
returns-clause-held c = located_load_is_held

pub returns-clause-stale : goal.returns-clause-stale
returns-clause-stale c = stale_is_wrong
