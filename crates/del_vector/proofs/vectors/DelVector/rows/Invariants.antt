use Rattle.std.proofs.Common.{◌≡◌, take}
use Rattle.del_vector.proofs.vectors.DelVector.rows.Given as goal

abbrev pub invariant-loop-row : goal.invariant-loop-row
invariant-loop-row l = l.rows.items ≡ take l.row-index l.dead
