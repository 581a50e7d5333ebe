use Rattle.index_file.proofs.RiseFacts.{Neighbours}
use Rattle.index_file.proofs.log_bodies.keys_rise.Given as goal

abbrev pub invariant-loop-i : goal.invariant-loop-i
invariant-loop-i l = Neighbours l.entries l.i
