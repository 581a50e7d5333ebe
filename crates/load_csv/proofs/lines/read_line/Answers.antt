use Rattle.std.proofs.Common.{◌≡◌, length, sym, ◌∙◌}
use Rattle.csv.specs.Records.{fields_of}
use Rattle.load_csv.proofs.FitFacts.{key-fits}
use Rattle.load_csv.proofs.lines.read_line.Goals as goal

pub line_with-requires-clause-fits : goal.line_with-requires-clause-fits
line_with-requires-clause-fits c =
    let fields = c.args.header.now.fields.items in
    let width : length (fields_of c.args.row.now) ≡ length fields = cc (c.len.ensures, c.if-len.false, c.len-2.ensures) in
    key-fits c.args.schema.now fields c.args.n c.in-Some.delete (fields_of c.args.row.now) c.in_ok-cells.cells.items c.requires.keys width (rw c.deref-2.ensures.value at c.in_ok-cells.ensures.ok)
