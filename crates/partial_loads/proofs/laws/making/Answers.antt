use Rattle.partial_loads.proofs.MakeFacts.{made_are_results, folded_are_results, folded_have_changes, stood_keys_first, made_once, written_is_indexed, rising_once, one_key_list}
use Rattle.partial_loads.proofs.OldFacts.{made_rows_fit, olds_have_map, olds_make_rows}
use Rattle.partial_loads.proofs.laws.making.Goals as goal

pub returns-clause-results : goal.returns-clause-results
returns-clause-results c = made_are_results

pub returns-clause-folded : goal.returns-clause-folded
returns-clause-folded c = folded_are_results

pub returns-clause-changes : goal.returns-clause-changes
returns-clause-changes c = folded_have_changes

pub returns-clause-keys_first : goal.returns-clause-keys_first
returns-clause-keys_first c = stood_keys_first

pub returns-clause-once : goal.returns-clause-once
returns-clause-once c = made_once

pub returns-clause-indexed : goal.returns-clause-indexed
returns-clause-indexed c = written_is_indexed

pub returns-clause-rising : goal.returns-clause-rising
returns-clause-rising c = rising_once

pub returns-clause-one_list : goal.returns-clause-one_list
returns-clause-one_list c = one_key_list

pub returns-clause-fit : goal.returns-clause-fit
returns-clause-fit c = made_rows_fit

pub returns-clause-of_map : goal.returns-clause-of_map
returns-clause-of_map c = olds_make_rows

pub returns-clause-a_map : goal.returns-clause-a_map
returns-clause-a_map c = olds_have_map
