use Rattle.std.proofs.Common.{◌≡◌, ◌∷◌, List, subst}
use Rattle.std.specs.Prelude.{All}
use Rattle.std.specs.List.{IsDistinct}
use Rattle.core_publish.specs.declared.lines.Rank.{Rank}
use Rattle.core_publish.specs.Lines.{IsRanked, lines_in, same_line}
use Rattle.core_publish.specs.Leaving.{LeavesMore}
use Rattle.core_publish.proofs.LeaveFacts.{leaves-on, parted}
use Rattle.core_publish.proofs.results.results_of.Goals as goal

pub settle-requires-clause-ranked : goal.settle-requires-clause-ranked
settle-requires-clause-ranked c = subst (All (IsRanked c.args.schema.now c.loop-rank.ops.items)) c.in-Some.ensures.cases.0 c.loop-rank.invariant.ranked

pub loop-rank-preserved : goal.loop-rank-preserved
loop-rank-preserved c =
    let s = c.args.schema.now in
    let inv = c.loop-rank.invariant in
    let rank = c.in-Some.rank.now in
    let later = c.in-Some.later.now in
    let split : c.loop-rank.left.now ≡ rank ∷ later = c.in-Some.ensures.cases.0 in
    let first = c.in_ok-results.results in
    let all = lines_in c.args.ops.items c.args.order.now in
    let so_far : LeavesMore s all (lines_in c.loop-rank.ops.items (rank ∷ later)) first c.loop-rank.results =
    subst (λ (left : List Rank). LeavesMore s all (lines_in c.loop-rank.ops.items left) first c.loop-rank.results) split inv.leaves in
    record {
      ranked = c.in_ok-settle.ensures.ranked;
      apart = (parted rank later (subst (IsDistinct same_line) split inv.apart)).1;
      leaves = leaves-on s _ _ _ _ _ _ so_far c.in_ok-settle.ensures.leaves;
    }
