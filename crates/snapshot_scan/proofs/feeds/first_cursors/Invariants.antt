use Rattle.snapshot_scan.proofs.FillFacts.{AreFirst}
use Rattle.snapshot_scan.proofs.feeds.first_cursors.Given as goal

abbrev pub invariant-loop-i : goal.invariant-loop-i
invariant-loop-i g l = AreFirst l.snapshot l.i l.cursors.items
