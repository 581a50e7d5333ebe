use Rattle.std.proofs.Common.{◌≡◌, drop, length, []}
use Rattle.csv.specs.Records.{fields_of}
use Rattle.load_csv.specs.Headers.{fields_after}
use Rattle.load_csv.proofs.headers.read_fields.Given as goal

abbrev pub invariant-loop-i : goal.invariant-loop-i
invariant-loop-i l = record {
  count : length l.fields.items ≡ l.i;
  rest : fields_after l.schema l.fields.items (drop l.i (fields_of l.names)) ≡ fields_after l.schema [] (fields_of l.names);
}
