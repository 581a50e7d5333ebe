use Rattle.std.proofs.Common.{◌≡◌, ◌+◌, ◌-◌, sym, ◌∙◌, arith}
use Rattle.turn_uses.specs.declared.scores.Score.TheVariants.{Compared}
use Rattle.turn_uses.specs.Scores.{best_after, scores_snoc, best_snoc, score_below}
use Rattle.turn_uses.proofs.scores.CompareActBest.play.Goals as goal

pub overflow_sub-result : goal.overflow_sub-result
overflow_sub-result c = let r = c.requires in let below = score_below r.0 r.1 c.args.self.now.place c.args.self.now.score r.4 in let is = r.3 in omega arith

pub returns : goal.returns
returns c o log lawful is stands place =
    let score = c.args.self.now.score in let behind = c.args.value.now.score - score in let e = Compared score behind in
    let below = score_below o log c.args.self.now.place score stands in
    let lies : score + behind ≡ best_after o log = omega arith in
    (scores_snoc o log e lawful lies, is ∙ sym (best_snoc o log e), lies ∙ sym (best_snoc o log e))
