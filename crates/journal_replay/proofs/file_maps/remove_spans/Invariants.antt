use Rattle.std.proofs.Common.{◌≡◌, ℕ, length}
use Rattle.std.specs.BTreeMap.{get}
use Rattle.std.specs.List.{flat_map}
use Rattle.std.specs.Ordering.{nat_cmp}
use Rattle.journal_replay.specs.Lookups.{span_numbers, without}
use Rattle.journal_replay.proofs.file_maps.remove_spans.Given as goal

abbrev pub invariant-loop-left : goal.invariant-loop-left
invariant-loop-left l = (n : ℕ) → without (flat_map span_numbers l.left) (get nat_cmp l.files) n ≡ without (flat_map span_numbers l.fn.spans) (get nat_cmp l.fn.files) n

abbrev pub decreases-loop-left : goal.decreases-loop-left
decreases-loop-left l = length l.left
