use Rattle.std.proofs.Common.{◌≡◌, ℕ, length}
use Rattle.std.specs.BTreeMap.{get}
use Rattle.std.specs.Ordering.{nat_cmp}
use Rattle.journal_replay.specs.Lookups.{added}
use Rattle.journal_replay.proofs.file_maps.add_files.Given as goal

abbrev pub invariant-loop-left : goal.invariant-loop-left
invariant-loop-left l = (n : ℕ) → added l.left (get nat_cmp l.files) n ≡ added l.fn.new (get nat_cmp l.fn.files) n

abbrev pub decreases-loop-left : goal.decreases-loop-left
decreases-loop-left l = length l.left
