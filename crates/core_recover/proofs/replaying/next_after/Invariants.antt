use Rattle.std.proofs.Common.{◌≡◌, true, length}
use Rattle.journal_form.specs.Versions.{above, all_below, bound, numbers_of}
use Rattle.core_recover.proofs.replaying.next_after.Given as goal

abbrev pub invariant-loop-left : goal.invariant-loop-left
invariant-loop-left l = record {
  above : above l.least (numbers_of l.left) ≡ above l.fn.next (numbers_of l.fn.files);
  below : all_below bound (numbers_of l.left) ≡ true;
}

abbrev pub decreases-loop-left : goal.decreases-loop-left
decreases-loop-left l = length l.left
