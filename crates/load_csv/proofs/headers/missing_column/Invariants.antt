use Rattle.std.proofs.Common.{◌≡◌, drop}
use Rattle.load_csv.specs.Headers.{missing_from}
use Rattle.load_csv.proofs.headers.missing_column.Given as goal

abbrev pub invariant-loop-i : goal.invariant-loop-i
invariant-loop-i l = missing_from l.fields l.i (drop l.i l.columns) ≡ missing_from l.fields 0 l.columns
