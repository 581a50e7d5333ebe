use Rattle.del_vector.proofs.DeadFacts.{union_done}
use Rattle.del_vector.proofs.unions.union.Goals as goal

pub returns-clause-dead : goal.returns-clause-dead
returns-clause-dead c =
    union_done c.loop-i.united.items c.args.rows.now c.args.dead.now c.loop-i.i c.loop-i.j c.if-i-rows.false c.if-j-dead.false c.loop-i.invariant.left c.requires.rows c.requires.dead
