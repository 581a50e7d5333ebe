use Rattle.segment_read.proofs.BlockFacts.{kinds}
use Rattle.segment_read.proofs.blocks.read_block.Goals as goal

pub read_rows-requires-clause-kinds : goal.read_rows-requires-clause-kinds
read_rows-requires-clause-kinds c = kinds c.args.schema.now c.columns.result.now c.columns.ensures.value c.columns.ensures.valid
