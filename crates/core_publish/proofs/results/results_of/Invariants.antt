use Rattle.std.proofs.Common.{length}
use Rattle.std.specs.Prelude.{All}
use Rattle.std.specs.List.{IsDistinct}
use Rattle.core_publish.specs.Lines.{IsRanked, lines_in, same_line}
use Rattle.core_publish.specs.Leaving.{LeavesMore}
use Rattle.core_publish.proofs.results.results_of.Given as goal

abbrev pub invariant-loop-rank : goal.invariant-loop-rank
invariant-loop-rank l = record {
  ranked : All (IsRanked l.schema l.ops.items) l.left;
  apart : IsDistinct same_line l.left;
  leaves : LeavesMore l.schema (lines_in l.fn.ops.items l.fn.order) (lines_in l.ops.items l.left) l.initial.results l.results;
}

abbrev pub decreases-loop-rank : goal.decreases-loop-rank
decreases-loop-rank l = length l.left
