use Rattle.std.proofs.Common.{◌≡◌, ◌∙◌, sym, subst, length}
use Rattle.core_partial.proofs.KeyFacts.{count-of, renewed, renewed-over, same-again}
use Rattle.core_partial.proofs.settling.settle.Goals as goal

pub returns-clause-count : goal.returns-clause-count
returns-clause-count g c = c.moved-moved.ensures ∙ count-of _ _ c.in_ok-again.again c.in_ok-again.ensures.again.is

pub returns-clause-settled : goal.returns-clause-settled
returns-clause-settled g c = renewed c.args.state.now.contents c.args.state.now.segments c.args.prepared.now c.renew.new.self c.in_ok-again.again c.renew.ensures c.in_ok-again.ensures.again

pub returns-clause-over : goal.returns-clause-over
returns-clause-over g c b h = renewed-over c.args.state.now.contents c.args.prepared.now c.renew.new.self c.in_ok-again.again b.current c.renew.ensures (c.in_ok-again.ensures.over b h c.requires.open)

pub returns-clause-replaced : goal.returns-clause-replaced
returns-clause-replaced g c = same-again c.args.prepared.now c.renew.new.self c.in_ok-again.again c.renew.ensures
