use Rattle.std.proofs.Common.{arith}
use Rattle.core_recover.proofs.AreaFacts.{blanked_reads, on_so}
use Rattle.core_recover.proofs.CreateFacts.{blank_reads, blank_so, one_blanked, one_rest, two_blanked, two_rest}
use Rattle.core_recover.proofs.creating.blank_both.Goals as goal

pub returns-in_err-blank-clause-moments : goal.returns-in_err-blank-clause-moments
returns-in_err-blank-clause-moments g c = one_blanked 0 (g.S.Store.view c.args.store.now) (g.S.Store.view c.blank.new.self) (omega arith) c.blank.ensures.crash

pub returns-clause-moments : goal.returns-clause-moments
returns-clause-moments g c = two_blanked (g.S.Store.view c.args.store.now) (g.S.Store.view c.blank.new.self) (g.S.Store.view c.blank-2.new.self) c.blank.ensures.crash c.blank-2.ensures.crash

pub returns-in_err-blank-clause-elsewhere : goal.returns-in_err-blank-clause-elsewhere
returns-in_err-blank-clause-elsewhere g c = one_rest 0 (g.S.Store.view c.args.store.now) (g.S.Store.view c.blank.new.self) (omega arith) c.blank.ensures.elsewhere

pub returns-clause-elsewhere : goal.returns-clause-elsewhere
returns-clause-elsewhere g c = two_rest (g.S.Store.view c.args.store.now) (g.S.Store.view c.blank.new.self) (g.S.Store.view c.blank-2.new.self) c.blank-2.ensures.spends.tells c.blank.ensures.elsewhere c.blank-2.ensures.elsewhere

pub returns-clause-read : goal.returns-clause-read
returns-clause-read g c =
    let one = g.S.Store.view c.blank.new.self in
    let two = g.S.Store.view c.blank-2.new.self in
    on_so c.blank-2.result _ _ (λ blank. blank_reads one two c.blank-2.ensures.spends.tells
    (blanked_reads 0 (g.S.Store.view c.args.store.now) one (g.met.S.Store.three_areas c.args.store.now) (omega arith) c.in_ok-blank.ensures.blank) c.blank-2.ensures.elsewhere
    (blanked_reads 1 one two (g.met.S.Store.three_areas c.blank.new.self) (omega arith) blank)) c.blank-2.ensures.blank

pub returns-clause-blank : goal.returns-clause-blank
returns-clause-blank g c = on_so c.blank-2.result _ _ (λ durable.
    blank_so (g.S.Store.view c.blank.new.self) (g.S.Store.view c.blank-2.new.self) c.in_ok-blank.ensures.durable c.blank-2.ensures.crash durable) c.blank-2.ensures.durable
