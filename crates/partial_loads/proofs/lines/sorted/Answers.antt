use Rattle.std.proofs.Common.{rules}
use Rattle.std.proofs.lemmas.Cmp.{nat_list_cmp_total}
use Rattle.std.proofs.lemmas.Fn.{always_returns_same}
use Rattle.std.proofs.lemmas.List.Sorted.{answers_always, ranks_by}
use Rattle.key_code.specs.Prefixes.{prefix_of}
use Rattle.partial_loads.proofs.LineFacts.{twice-sorted}
use Rattle.partial_loads.proofs.lines.sorted.Goals as goal

pub returns : goal.returns
returns c = λ s coded.
    twice-sorted s c.args.lines.items c.sort_by_cached_key.new.self.items c.sort_by.new.self.items coded
    c.sort_by_cached_key.ensures.permutation c.sort_by.ensures.permutation
    (c.sort_by_cached_key.ensures.stable (λ line. prefix_of line.code) (always_returns_same _ _ _ (λ a r f' k. search rules)))
    (c.sort_by.ensures.stable _ (ranks_by nat_list_cmp_total (λ line. line.code)) (answers_always _ _ _ (λ f a r f' k. search rules)))
    (c.in_ok-sort_by.ensures.sorted _ (ranks_by nat_list_cmp_total (λ line. line.code)) (answers_always _ _ _ (λ f a r f' k. search rules)))
