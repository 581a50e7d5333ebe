use Rattle.std.proofs.Common.{ℕ, suc, ◌<◌, get_or}
use Rattle.scan_cases.proofs.dead_rows.rise.Given as goal

abbrev pub invariant-loop-i : goal.invariant-loop-i
invariant-loop-i l = (k d : ℕ) → suc k < l.i → get_or l.rows k d < get_or l.rows (suc k) d
