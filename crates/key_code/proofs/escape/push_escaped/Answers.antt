use Rattle.key_code.proofs.Drafting.{escaped_step}
use Rattle.key_code.proofs.escape.push_escaped.Goals as goal

pub loop-c-preserved : goal.loop-c-preserved
loop-c-preserved c = escaped_step c.loop-c.out c.push_inner.new.out _ c.args.text.now c.loop-c.c-index c.loop-c-test.true c.push_inner.ensures c.loop-c.invariant
