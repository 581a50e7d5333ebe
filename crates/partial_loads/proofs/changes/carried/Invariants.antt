use Rattle.std.proofs.Common.{◌≡◌, drop}
use Rattle.partial_loads.specs.Folds.{carried}
use Rattle.partial_loads.proofs.changes.carried.Given as goal

abbrev pub invariant-loop-i : goal.invariant-loop-i
invariant-loop-i l = carried (drop l.i l.given) (drop l.i l.cells) l.column ≡ carried l.given l.cells l.column
