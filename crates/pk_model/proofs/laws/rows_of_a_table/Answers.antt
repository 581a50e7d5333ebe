use Rattle.pk_model.proofs.LineLaws.{keys-rise, rows-tell-keys}
use Rattle.pk_model.proofs.laws.rows_of_a_table.Goals as goal

pub returns-clause-keys_rise : goal.returns-clause-keys_rise
returns-clause-keys_rise c = keys-rise

pub returns-clause-rows_tell_keys : goal.returns-clause-rows_tell_keys
returns-clause-rows_tell_keys c = rows-tell-keys
