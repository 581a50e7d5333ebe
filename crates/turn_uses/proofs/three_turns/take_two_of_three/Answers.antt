use Rattle.std.proofs.Common.{◌≡◌, length, ap, ◌∙◌, arith}
use Rattle.turn_uses.specs.Counts.{last}
use Rattle.turn_uses.proofs.Counting.{last_counts}
use Rattle.turn_uses.proofs.three_turns.take_two_of_three.Goals as goal

pub returns-clause-value : goal.returns-clause-value
returns-clause-value g c =
    let seen = c.join.new.pass.seen in
    let one : length c.meet_both.new.first.mine ≡ 1 = ap length (c.meet_both.ensures.calls.0 ∙ c.join-first.ensures.first.2) in
    let other : length c.meet_both.new.second.mine ≡ 1 = ap length (c.meet_both.ensures.calls.1 ∙ c.join-first.ensures.second.2) in
    let used = c.join.ensures.both.used in let whole = c.close.ensures.calls.1 in
    let two : length seen ≡ 2 = omega arith in
    let counted : last 0 seen ≡ 2 = let n = last_counts 0 seen (omega arith) in omega arith in
    c.close.ensures.outcome ∙ (ap (λ z. last z seen) c.in-Ok.ensures.ok.1 ∙ counted)
