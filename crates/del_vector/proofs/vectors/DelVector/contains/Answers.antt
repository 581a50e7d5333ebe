use Rattle.del_vector.proofs.DeadFacts.{past_rows}
use Rattle.del_vector.proofs.vectors.DelVector.contains.Goals as goal

pub returns-else-row-lt65536-clause-contains : goal.returns-else-row-lt65536-clause-contains
returns-else-row-lt65536-clause-contains c = past_rows c.args.self.now c.args.row c.as_slice-dead.ensures.dead.below c.if-row-lt65536.false
