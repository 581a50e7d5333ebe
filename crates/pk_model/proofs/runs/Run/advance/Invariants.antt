use Rattle.std.proofs.Common.{◌≡◌, ◌++◌, length, T}
use Rattle.pk_model.specs.Runs.{written, unread, are_up_to}
use Rattle.pk_model.proofs.runs.Run.advance.Given as goal

abbrev pub invariant-loop-key : goal.invariant-loop-key
invariant-loop-key l = record {
  same : written l.self ++ unread l.rest ≡ written l.fn.self ++ unread l.fn.rest;
  behind : T (are_up_to l.fn.key (written l.fn.self)) → T (are_up_to l.fn.key (written l.self));
}

abbrev pub decreases-loop-key : goal.decreases-loop-key
decreases-loop-key l = length (unread l.rest)
