use Rattle.std.proofs.Common.{rules}
use Rattle.std.proofs.lemmas.Fn.{always_returns_same}
use Rattle.old_rows.specs.declared.wanted.Wanted.{Wanted}
use Rattle.old_rows.proofs.RunFacts.{in-order}
use Rattle.old_rows.proofs.WantedFacts.{wanted-sorted}
use Rattle.old_rows.proofs.wanted.wanted_rows.Goals as goal

pub returns-clause-wanted : goal.returns-clause-wanted
returns-clause-wanted c = wanted-sorted _ _ _ _ _ c.sort_unstable_by_key.ensures.permutation c.in_ok-wanted.ensures

pub returns-clause-order : goal.returns-clause-order
returns-clause-order c =
    in-order c.sort_unstable_by_key.new.self.items
    (c.sort_unstable_by_key.ensures.sorted (λ (w : Wanted). (w.place.segment, w.place.row)) (always_returns_same _ _ _ (λ a r f' k. search rules)))
