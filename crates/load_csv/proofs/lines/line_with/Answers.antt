use Rattle.std.proofs.Common.{◌∙◌, ap, arith, length, drop, length-drop}
use Rattle.load_csv.proofs.LoadFacts.{length-marks}
use Rattle.load_csv.proofs.lines.line_with.Goals as goal

pub split_cells-requires-clause-width : goal.split_cells-requires-clause-width
split_cells-requires-clause-width c =
    let s = c.args.schema.now in
    let marked = ap length c.requires.marks ∙ length-marks c.args.header.now.fields.items s.keys (drop s.keys s.columns) ∙ length-drop s.keys s.columns in
    omega (arith, marked, c.requires.width, c.keys.ensures.value)
