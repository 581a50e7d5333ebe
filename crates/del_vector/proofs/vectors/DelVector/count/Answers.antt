use Rattle.std.proofs.Common.{arith, ap, length}
use Rattle.del_vector.proofs.DeadFacts.{few_rows}
use Rattle.del_vector.proofs.vectors.DelVector.count.Goals as goal

pub overflow_cast-result : goal.overflow_cast-result
overflow_cast-result c =
    let few = few_rows c.args.self.now c.as_slice.ensures.dead in
    let same = ap (length) c.as_slice.ensures.rows in
    omega arith
