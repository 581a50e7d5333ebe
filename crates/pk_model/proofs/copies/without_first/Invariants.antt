use Rattle.std.proofs.Common.{◌≡◌, drop}
use Rattle.pk_model.proofs.copies.without_first.Given as goal

abbrev pub invariant-loop : goal.invariant-loop
invariant-loop l = l.rest.items ≡ drop l.counter l.fn.tables
