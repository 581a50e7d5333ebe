use Rattle.std.proofs.Common.{◌≡◌, ◌==◌, ◌≤◌, ◌<◌, ℕ, true}
use Rattle.std.specs.List.{list_any}
use Rattle.snapshot_scan.proofs.live.has_live.Given as goal

abbrev pub invariant-loop-row : goal.invariant-loop-row
invariant-loop-row l = (r : ℕ) → l.from ≤ r → r < l.row → list_any (λ d. d == r) l.dead ≡ true
