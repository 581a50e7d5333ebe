use Rattle.std.proofs.Common.{sym, ◌∙◌}
use Rattle.pk_model.proofs.RunLaws.{none-left}
use Rattle.pk_model.proofs.runs.Rest.next_up_to.Goals as goal

pub returns-then-begins_up_to-clause-past : goal.returns-then-begins_up_to-clause-past
returns-then-begins_up_to-clause-past c = none-left _ c.args.key.now _ _ c.pop.ensures.none (sym c.begins_up_to.ensures ∙ c.if-begins_up_to.true)
