use Rattle.version_journal.proofs.Meanings.{append_is_a_step, blanking_keeps, checkpoint_keeps}
use Rattle.version_journal.proofs.laws.moments.Goals as goal

pub returns-clause-append : goal.returns-clause-append
returns-clause-append c = append_is_a_step

pub returns-clause-blank : goal.returns-clause-blank
returns-clause-blank c = blanking_keeps

pub returns-clause-checkpoint : goal.returns-clause-checkpoint
returns-clause-checkpoint c = checkpoint_keeps
