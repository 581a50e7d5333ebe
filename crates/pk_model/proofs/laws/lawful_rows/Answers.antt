use Rattle.pk_model.proofs.LawfulRowLaws.{calls-keep, histories-keep, keys-fit, loads-keep, new-lawful, rows-fit}
use Rattle.pk_model.proofs.laws.lawful_rows.Goals as goal

pub returns-clause-load : goal.returns-clause-load
returns-clause-load c = loads-keep

pub returns-clause-new : goal.returns-clause-new
returns-clause-new c = new-lawful

pub returns-clause-call : goal.returns-clause-call
returns-clause-call c = calls-keep

pub returns-clause-history : goal.returns-clause-history
returns-clause-history c = histories-keep

pub returns-clause-rows : goal.returns-clause-rows
returns-clause-rows c = rows-fit

pub returns-clause-keys : goal.returns-clause-keys
returns-clause-keys c = keys-fit
