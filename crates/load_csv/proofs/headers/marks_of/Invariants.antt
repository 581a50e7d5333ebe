use Rattle.std.proofs.Common.{◌≡◌, ◌++◌, drop}
use Rattle.load_csv.specs.Lines.{marks, other_marks}
use Rattle.load_csv.proofs.headers.marks_of.Given as goal

abbrev pub invariant-loop-i : goal.invariant-loop-i
invariant-loop-i l = l.found.items ++ marks l.fields l.i (drop l.i l.schema.columns) ≡ other_marks l.schema l.fields
