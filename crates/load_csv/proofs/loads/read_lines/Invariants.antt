use Rattle.std.proofs.Common.{◌≡◌, length, []}
use Rattle.load_csv.specs.Loads.{lines_after}
use Rattle.load_csv.specs.Records.{IsReading, rows_left}
use Rattle.load_csv.proofs.loads.read_lines.Given as goal

abbrev pub invariant-loop-i : goal.invariant-loop-i
invariant-loop-i l = record {
  reading : IsReading l.rdr;
  count : length l.ops ≡ l.i;
  rest : lines_after l.schema l.header.fields.items l.ops (rows_left l.rdr) ≡ lines_after l.schema l.header.fields.items [] (rows_left l.initial.rdr);
}
