use Rattle.store_files.proofs.IndexFacts.{codes_find_rows, live_are_moved}
use Rattle.store_files.proofs.laws.live_rows_make_index.Goals as goal

pub returns-clause-moved : goal.returns-clause-moved
returns-clause-moved c = live_are_moved

pub returns-clause-found : goal.returns-clause-found
returns-clause-found c = codes_find_rows
