use Rattle.turn_uses.proofs.threads.+count_beside+fn-count_beside-join+arg2+fn-count_beside-join+arg3.Given as goal

abbrev pub decreases-count_beside : goal.decreases-count_beside
decreases-count_beside g l = l.threads

abbrev pub decreases-join+arg2 : goal.decreases-join+arg2
decreases-join+arg2 g l = l.more

abbrev pub decreases-join+arg3 : goal.decreases-join+arg3
decreases-join+arg3 g l = l.few
