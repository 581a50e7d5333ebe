use Rattle.std.proofs.Common.{◌≡◌, drop}
use Rattle.csv.specs.Records.{fields_of}
use Rattle.load_csv.specs.Lines.{is_delete}
use Rattle.load_csv.proofs.lines.is_delete.Given as goal

abbrev pub invariant-loop-i : goal.invariant-loop-i
invariant-loop-i l = is_delete (drop l.i l.fields) (drop l.i (fields_of l.row)) ≡ is_delete l.fields (fields_of l.row)
