use Rattle.version_journal.proofs.Logs.{epoch_is_told, one_log}
use Rattle.version_journal.proofs.Meanings.{area_is_told, logs_tell_meaning}
use Rattle.version_journal.proofs.laws.areas.Goals as goal

pub returns-clause-log : goal.returns-clause-log
returns-clause-log c = one_log

pub returns-clause-epoch : goal.returns-clause-epoch
returns-clause-epoch c = epoch_is_told

pub returns-clause-area : goal.returns-clause-area
returns-clause-area c = area_is_told

pub returns-clause-told : goal.returns-clause-told
returns-clause-told c = logs_tell_meaning
