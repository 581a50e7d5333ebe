use Rattle.std.proofs.Common.{rules}
use Rattle.std.proofs.lemmas.Fn.{always_returns_same}
use Rattle.std.proofs.lemmas.List.Sorted.{ranks_by}
use Rattle.core_publish.specs.declared.lines.Rank.{Rank}
use Rattle.core_publish.proofs.LineFacts.{rank_total, sorted-order}
use Rattle.core_publish.proofs.lines.in_order.Goals as goal

pub returns : goal.returns
returns c = λ s valid all counted long.
    let ops = c.args.ops.now in
    sorted-order s valid ops c.args.ranks.items c.sort_by_key.new.self.items c.sort_by.new.self.items all counted long c.sort_by_key.ensures.permutation c.sort_by.ensures.permutation
    (c.sort_by_key.ensures.stable (λ (rank : Rank). rank.number) (always_returns_same _ _ _ (λ a r f' k. search rules)))
    (c.sort_by.ensures.stable _ (ranks_by (rank_total ops) (λ (r : Rank). r)) (always_returns_same _ _ _ (λ a r f' k. search rules)))
    (c.in_ok-sort_by.ensures.sorted _ (ranks_by (rank_total ops) (λ (r : Rank). r)) (always_returns_same _ _ _ (λ a r f' k. search rules)))
