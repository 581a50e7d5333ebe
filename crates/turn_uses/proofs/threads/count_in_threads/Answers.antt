use Rattle.std.proofs.Common.{◌≡◌, length, ap, ◌∙◌, arith}
use Rattle.turn_uses.specs.Counts.{last}
use Rattle.turn_uses.proofs.Counting.{last_counts}
use Rattle.turn_uses.proofs.threads.count_in_threads.Goals as goal

pub returns : goal.returns
returns g c =
    let seen = c.count_beside-pass.result.seen in let made = c.in-Ok.ensures.ok in
    let none : length c.in-Ok.made.1.mine ≡ 0 = ap (λ p. length p.mine) made.2 in
    let all : c.in-Ok.made.1.left ≡ c.args.turns = ap (λ p. p.left) made.2 in
    let calls = c.count_beside-pass.ensures.calls.1 in let whole = c.close.ensures.calls.1 in let most = c.requires in
    let long : length seen ≡ c.args.turns = omega arith in
    let counted : last 0 seen ≡ c.args.turns = let n = last_counts 0 seen (omega arith) in omega arith in
    c.close.ensures.outcome ∙ (ap (λ z. last z seen) made.1 ∙ counted)
