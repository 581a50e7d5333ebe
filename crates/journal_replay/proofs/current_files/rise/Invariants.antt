use Rattle.std.proofs.Common.{◌≡◌, ◌≤◌, length}
use Rattle.journal_form.specs.Versions.{rise_from}
use Rattle.journal_replay.proofs.current_files.rise.Given as goal

abbrev pub invariant-loop-left : goal.invariant-loop-left
invariant-loop-left l = (rise_from l.least l.left ≡ rise_from 0 l.fn.rows) × (l.least ≤ 65536)

abbrev pub decreases-loop-left : goal.decreases-loop-left
decreases-loop-left l = length l.left
