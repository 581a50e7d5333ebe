use Rattle.std.proofs.Common.{◌≡◌, ◌++◌, length}
use Rattle.pk_model.specs.Runs.{written, unread}
use Rattle.pk_model.proofs.runs.Run.append.Given as goal

abbrev pub invariant-loop-key : goal.invariant-loop-key
invariant-loop-key l = written l.self ++ unread l.rest ≡ written l.fn.self ++ unread l.fn.rest

abbrev pub decreases-loop-key : goal.decreases-loop-key
decreases-loop-key l = length (unread l.rest)
