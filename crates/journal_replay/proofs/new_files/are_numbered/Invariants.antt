use Rattle.std.proofs.Common.{◌≡◌, ◌&&◌, ◌≤◌, ◌-◌, ◌^◌, length}
use Rattle.journal_form.specs.Versions.{all_below, bound, consecutive, numbers_of}
use Rattle.journal_replay.proofs.new_files.are_numbered.Given as goal

abbrev pub invariant-loop-left : goal.invariant-loop-left
invariant-loop-left l =
    ((consecutive l.due l.left && all_below (bound - 1) (numbers_of l.left)) ≡ (consecutive l.first l.fn.files && all_below (bound - 1) (numbers_of l.fn.files)))
    × (l.due ≤ 2 ^ 63)

abbrev pub decreases-loop-left : goal.decreases-loop-left
decreases-loop-left l = length l.left
