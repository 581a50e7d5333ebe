use Rattle.std.proofs.Common.{◌≡◌, ◌+◌, length}
use Rattle.turn_book.specs.Passes.{IsOf}
use Rattle.turn_uses.proofs.threads.count_alone.Given as goal

abbrev pub decreases-loop-pass : goal.decreases-loop-pass
decreases-loop-pass g l = l.pass.left

abbrev pub invariant-loop-pass : goal.invariant-loop-pass
invariant-loop-pass g l = IsOf l.book l.pass × (length l.pass.mine + l.pass.left ≡ length l.fn.pass.mine + l.fn.pass.left)
