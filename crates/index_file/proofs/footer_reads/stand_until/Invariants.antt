use Rattle.std.proofs.Common.{◌≡◌, drop}
use Rattle.index_file.specs.Footers.{stand_until}
use Rattle.index_file.proofs.footer_reads.stand_until.Given as goal

abbrev pub invariant-loop-mark : goal.invariant-loop-mark
invariant-loop-mark l = stand_until l.end l.at (drop l.mark-index l.marks) ≡ stand_until l.end 0 l.marks
