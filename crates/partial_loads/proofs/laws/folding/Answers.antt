use Rattle.partial_loads.proofs.FoldFacts.{composed_acts, fold_is_lines, load_is_changes, no_condition_is_lines, delete_renews, last_cells, old_row_unasked}
use Rattle.partial_loads.proofs.laws.folding.Goals as goal

pub returns-clause-composed : goal.returns-clause-composed
returns-clause-composed c = composed_acts

pub returns-clause-lines : goal.returns-clause-lines
returns-clause-lines c = fold_is_lines

pub returns-clause-load : goal.returns-clause-load
returns-clause-load c = load_is_changes

pub returns-clause-plain : goal.returns-clause-plain
returns-clause-plain c = no_condition_is_lines

pub returns-clause-renews : goal.returns-clause-renews
returns-clause-renews c = delete_renews

pub returns-clause-last : goal.returns-clause-last
returns-clause-last c = last_cells

pub returns-clause-unasked : goal.returns-clause-unasked
returns-clause-unasked c = old_row_unasked
