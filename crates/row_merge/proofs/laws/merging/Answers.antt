use Rattle.row_merge.proofs.UnionFacts.{merge_gives_map}
use Rattle.row_merge.proofs.laws.merging.Goals as goal

pub returns : goal.returns
returns c = merge_gives_map
