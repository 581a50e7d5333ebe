use Rattle.std.proofs.Common.{◌≡◌, ◌==◌, ◌≤◌, ◌<◌, ◌*◌, ℕ, true}
use Rattle.std.specs.List.{list_any}
use Rattle.snapshot_scan.proofs.live.next_live.Given as goal

abbrev pub invariant-loop-b : goal.invariant-loop-b
invariant-loop-b l = (r : ℕ) → l.from * 1024 ≤ r → r < l.b * 1024 → r < l.rows → list_any (λ d. d == r) l.dead ≡ true
