use Rattle.std.proofs.Common.{ap, sym, ◌∙◌}
use Rattle.partial_loads.proofs.FoldedFacts.{folded_onto, onto-none, onto-last}
use Rattle.partial_loads.proofs.folds.folded_lines.Goals as goal

pub loop-line-init : goal.loop-line-init
loop-line-init c = ap (folded_onto c.args.given.now c.args.when c.args.lines.items) c.in_ok-folded.ensures.items ∙ onto-none c.args.given.now c.args.when c.args.lines.items

pub loop-line-preserved : goal.loop-line-preserved
loop-line-preserved c =
    ap (folded_onto c.args.given.now c.args.when c.pop.new.self.items) c.in_ok-put_line.ensures
    ∙ sym (onto-last c.args.given.now c.args.when c.pop.new.self.items c.in-Some.line c.loop-line.folded.items)
    ∙ ap (λ ls. folded_onto c.args.given.now c.args.when ls c.loop-line.folded.items) (sym c.in-Some.ensures.items)
    ∙ c.loop-line.invariant
