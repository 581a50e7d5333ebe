use Rattle.pk_model.proofs.ReplyLaws.{answers-own, changes-close-nothing, faults-alone-close, one-of-three, own-is-answer}
use Rattle.pk_model.proofs.laws.replies.Goals as goal

pub returns-clause-own : goal.returns-clause-own
returns-clause-own c = answers-own

pub returns-clause-answer : goal.returns-clause-answer
returns-clause-answer c = own-is-answer

pub returns-clause-after : goal.returns-clause-after
returns-clause-after c = one-of-three

pub returns-clause-changes : goal.returns-clause-changes
returns-clause-changes c = changes-close-nothing

pub returns-clause-faults : goal.returns-clause-faults
returns-clause-faults c = faults-alone-close
