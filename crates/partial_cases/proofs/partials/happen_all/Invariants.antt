use Rattle.std.proofs.Common.{◌≡◌}
use Rattle.partial_cases.proofs.partials.happen_all.Given as goal

abbrev pub invariant-loop-step : goal.invariant-loop-step
invariant-loop-step g l = l.state.contents.schema ≡ l.fn.state.contents.schema
