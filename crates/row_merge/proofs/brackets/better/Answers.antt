use Rattle.std.proofs.Common.{◌∙◌, sym, true, false}
use Rattle.row_merge.proofs.BracketFacts.{better_is}
use Rattle.row_merge.proofs.brackets.better.Goals as goal

pub returns-then-comes_before : goal.returns-then-comes_before
returns-then-comes_before c =
    better_is c.args.schema.now c.args.cursors.now c.args.a c.args.b c.index-cursors-a.result c.index-cursors-b.result true c.requires.a_there c.index-cursors-a.is c.requires.b_there c.index-cursors-b.is
    (sym c.if-comes_before.true ∙ c.comes_before.ensures)

pub returns-else-comes_before : goal.returns-else-comes_before
returns-else-comes_before c =
    better_is c.args.schema.now c.args.cursors.now c.args.a c.args.b c.index-cursors-a.result c.index-cursors-b.result false c.requires.a_there c.index-cursors-a.is c.requires.b_there c.index-cursors-b.is
    (sym c.if-comes_before.false ∙ c.comes_before.ensures)
