use Rattle.rowsets.proofs.LoadFacts.{parts_make_load, results_by_key, no_write_no_row, live_rows_fit, rowsets_rise, whole_loads_ask_nothing, whole_load_results, loads_keep_short_keys}
use Rattle.rowsets.proofs.laws.loading.Goals as goal

pub returns-clause-parts : goal.returns-clause-parts
returns-clause-parts c = parts_make_load

pub returns-clause-by_key : goal.returns-clause-by_key
returns-clause-by_key c = results_by_key

pub returns-clause-no_row : goal.returns-clause-no_row
returns-clause-no_row c = no_write_no_row

pub returns-clause-rowsets : goal.returns-clause-rowsets
returns-clause-rowsets c = rowsets_rise

pub returns-clause-asks_nothing : goal.returns-clause-asks_nothing
returns-clause-asks_nothing c = whole_loads_ask_nothing

pub returns-clause-whole : goal.returns-clause-whole
returns-clause-whole c = whole_load_results

pub returns-clause-fit : goal.returns-clause-fit
returns-clause-fit c = live_rows_fit

pub returns-clause-short_keys : goal.returns-clause-short_keys
returns-clause-short_keys c = loads_keep_short_keys
