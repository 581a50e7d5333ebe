use Rattle.std.proofs.Common.{◌∙◌, arith}
use Rattle.index_file.proofs.FooterFacts.{stand_past}
use Rattle.index_file.proofs.footer_reads.stand_until.Goals as goal

pub returns-in-None : goal.returns-in-None
returns-in-None c = stand_past c.args.end c.loop-mark.at c.args.marks.now c.loop-mark.mark-index _ c.loop-mark-test.true (omega arith) c.in-None.ensures.none ∙ c.loop-mark.invariant
