use Rattle.std.proofs.Common.{ap, subst, sym, ◌∙◌, arith, is_lt, T}
use Rattle.index_file.proofs.RiseFacts.{not_rising, rising}
use Rattle.index_file.proofs.log_bodies.keys_rise.Goals as goal

pub returns-then-not-is_lt : goal.returns-then-not-is_lt
returns-then-not-is_lt c =
    not_rising c.args.entries.now c.loop-i.i c.index-entries-i.result c.index-entries-i-in-loop-i.result (omega arith) (omega arith) c.index-entries-i.is c.index-entries-i-in-loop-i.is
    (λ less. subst T (sym (c.if-not-is_lt.ensures ∙ ap is_lt c.cmp.ensures)) less)

pub returns : goal.returns
returns c = rising c.args.entries.now (λ k d within. c.loop-i.invariant k d (omega (arith, within)))
