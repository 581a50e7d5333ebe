use Rattle.std.proofs.Common.{sym, subst, ◌∙◌}
use Rattle.partial_loads.specs.Lines.{AreSorted}
use Rattle.partial_loads.proofs.FoldedFacts.{folded-are}
use Rattle.partial_loads.proofs.folds.fold_lines.Goals as goal

pub returns : goal.returns
returns c =
    folded-are c.args.schema.now c.args.given.now c.args.when c.args.lines.items c.in_ok-in_order.in_order.items c.from.result.items
    (subst (λ ops. AreSorted c.args.schema.now ops c.in_ok-in_order.in_order.items) c.in_ok-coded.ensures.ops
    (c.in_ok-in_order.ensures c.args.schema.now c.in_ok-coded.ensures.coded))
    (c.from.ensures.0 ∙ c.in_ok-folded.ensures)
