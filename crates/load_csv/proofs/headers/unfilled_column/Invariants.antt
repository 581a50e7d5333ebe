use Rattle.std.proofs.Common.{◌≡◌, drop}
use Rattle.load_csv.specs.Headers.{unfilled_from}
use Rattle.load_csv.proofs.headers.unfilled_column.Given as goal

abbrev pub invariant-loop-i : goal.invariant-loop-i
invariant-loop-i l = unfilled_from l.fields l.i (drop l.i l.columns) ≡ unfilled_from l.fields 0 l.columns
