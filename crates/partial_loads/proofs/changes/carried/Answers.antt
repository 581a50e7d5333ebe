use Rattle.std.proofs.Common.{sym, ◌∙◌}
use Rattle.partial_loads.proofs.CarriedFacts.{carried-skip}
use Rattle.partial_loads.proofs.changes.carried.Goals as goal

pub loop-i-preserved : goal.loop-i-preserved
loop-i-preserved c = sym (carried-skip c.args.given.now c.args.cells.now c.loop-i.i c.args.column c.loop-i-test.true c.if-given-i.false) ∙ c.loop-i.invariant
