use Rattle.std.proofs.Common.{◌≡◌, ◌+◌, ℕ}
use Rattle.std.specs.BTreeMap.{get}
use Rattle.std.specs.Ordering.{nat_cmp}
use Rattle.journal_replay.specs.Lookups.{counted_from, span_numbers, without}
use Rattle.journal_replay.proofs.file_maps.remove_span.Given as goal

abbrev pub invariant-loop-left : goal.invariant-loop-left
invariant-loop-left l =
    ((n : ℕ) → without (counted_from l.number l.left) (get nat_cmp l.files) n ≡ without (span_numbers l.fn.span) (get nat_cmp l.fn.files) n)
    × (l.number + l.left ≡ l.fn.span.first + l.fn.span.count)

abbrev pub decreases-loop-left : goal.decreases-loop-left
decreases-loop-left l = l.left
