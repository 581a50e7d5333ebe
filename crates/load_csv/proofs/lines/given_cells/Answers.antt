use Rattle.std.proofs.Common.{◌∙◌, sym}
use Rattle.load_csv.proofs.LoadFacts.{pick-all}
use Rattle.load_csv.proofs.lines.given_cells.Goals as goal

pub returns-then-header : goal.returns-then-header
returns-then-header c = c.from_vec.ensures ∙ sym (pick-all c.args.header.now.marks.items c.args.cells.items (sym c.requires.whole ∙ c.if-header.true) c.requires.width)
