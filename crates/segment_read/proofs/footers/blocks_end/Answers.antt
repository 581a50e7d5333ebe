use Rattle.std.proofs.Common.{◌∙◌, arith}
use Rattle.segment_read.proofs.FooterFacts.{end_more}
use Rattle.segment_read.proofs.footers.blocks_end.Goals as goal

pub loop-b-preserved : goal.loop-b-preserved
loop-b-preserved c = record {
  same = end_more c.loop-b.at _ c.args.footer.now.blocks c.loop-b.b c.block.result.now (c.block.ensures).block (omega (arith, c.from.ensures)) ∙ c.loop-b.invariant.same;
  near = omega arith;
}
