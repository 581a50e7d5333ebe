use Rattle.old_rows.specs.Wanted.{AreWanted}
use Rattle.old_rows.proofs.wanted.asked_rows.Given as goal

abbrev pub invariant-loop-i : goal.invariant-loop-i
invariant-loop-i l = AreWanted l.keys l.located l.i l.wanted.items
