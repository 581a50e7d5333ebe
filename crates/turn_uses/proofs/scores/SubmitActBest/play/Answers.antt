use Rattle.std.proofs.Common.{◌≡◌, max, sym, ap, ◌∙◌, rules}
use Rattle.turn_uses.specs.declared.scores.Score.TheVariants.{Submitted}
use Rattle.turn_uses.specs.Scores.{scores_snoc, best_snoc}
use Rattle.turn_uses.proofs.scores.SubmitActBest.play.Goals as goal

pub returns : goal.returns
returns c o log lawful is may place =
    let score = c.args.self.now.score in let e = Submitted score in
    let best : c.max-value.result ≡ max c.args.value.now.score score = search rules in
    (scores_snoc o log e lawful tt, best ∙ (ap (λ n. max n score) is ∙ sym (best_snoc o log e)), tt)
