use Rattle.std.proofs.Common.{sym, ◌∙◌, arith}
use Rattle.old_rows.proofs.RunFacts.{is-run, other-next, run-more, none-next}
use Rattle.old_rows.proofs.wanted.run_length.Goals as goal

pub returns-then-not-same_block : goal.returns-then-not-same_block
returns-then-not-same_block c =
    is-run c.loop-count.count c.args.wanted.now c.loop-count.invariant.some c.loop-count.invariant.most c.loop-count.invariant.one
    (other-next c.loop-count.count c.args.wanted.now c.loop-count-test.true (sym c.same_block.ensures ∙ c.if-not-same_block.true))

pub loop-count-preserved : goal.loop-count-preserved
loop-count-preserved c = record {
  some = let low = c.loop-count.invariant.some in omega arith;
  most = let lt = c.loop-count-test.true in omega arith;
  one = run-more c.loop-count.count c.args.wanted.now c.loop-count-test.true (sym c.same_block.ensures ∙ c.if-not-same_block.false) c.loop-count.invariant.one;
}

pub returns : goal.returns
returns c =
    is-run c.loop-count.count c.args.wanted.now c.loop-count.invariant.some c.loop-count.invariant.most c.loop-count.invariant.one
    (none-next c.loop-count.count c.args.wanted.now c.loop-count-test.false)
