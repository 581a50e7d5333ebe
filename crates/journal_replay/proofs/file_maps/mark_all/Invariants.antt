use Rattle.std.proofs.Common.{◌≡◌, ℕ, length}
use Rattle.std.specs.BTreeMap.{get}
use Rattle.std.specs.Ordering.{nat_cmp}
use Rattle.journal_replay.specs.Lookups.{all_take, least_after, marks}
use Rattle.journal_replay.proofs.file_maps.mark_all.Given as goal

abbrev pub invariant-loop-left : goal.invariant-loop-left
invariant-loop-left l =
    (all_take (least_after l.last) (get nat_cmp l.files) l.left ≡ all_take 0 (get nat_cmp l.fn.files) l.fn.changed)
    × ((n : ℕ) → marks l.left (get nat_cmp l.files) n ≡ marks l.fn.changed (get nat_cmp l.fn.files) n)

abbrev pub decreases-loop-left : goal.decreases-loop-left
decreases-loop-left l = length l.left
