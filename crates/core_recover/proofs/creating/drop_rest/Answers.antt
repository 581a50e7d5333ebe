use Rattle.std.proofs.Common.{sym, subst, IsTrue, Bool}
use Rattle.core_recover.proofs.AreaFacts.{on_so}
use Rattle.core_recover.proofs.CreateFacts.{forgets_clear, forgot_none, none_elsewhere, then_clears}
use Rattle.core_recover.proofs.creating.drop_rest.Goals as goal

pub returns-in_err-forget_others-clause-moments : goal.returns-in_err-forget_others-clause-moments
returns-in_err-forget_others-clause-moments g c = forgets_clear (g.S.Store.view c.args.store.now) (g.S.Store.view c.forget_others.new.self) c.forget_others.ensures.crash

pub returns-clause-moments : goal.returns-clause-moments
returns-clause-moments g c =
    let old = g.S.Store.view c.args.store.now in
    let one = g.S.Store.view c.forget_others.new.self in
    let two = g.S.Store.view c.blank_written.new.store in
    then_clears 2 old one two (forgets_clear old one c.forget_others.ensures.crash) c.blank_written.ensures.crash

pub returns-clause-none : goal.returns-clause-none
returns-clause-none g c =
    let old = g.S.Store.view c.args.store.now in
    let one = g.S.Store.view c.forget_others.new.self in
    let two = g.S.Store.view c.blank_written.new.store in
    on_so c.blank_written.result _ _ (λ read. none_elsewhere one two 2 c.blank_written.ensures.spends.tells (forgot_none old one c.in_ok-forget_others.ensures.forgot) c.blank_written.ensures.elsewhere) c.blank_written.ensures.read

pub returns-clause-each_index : goal.returns-clause-each_index
returns-clause-each_index g c =
    on_so c.blank_written.result _ _ (λ each honest. each (subst (λ (b : Bool). IsTrue b) (sym c.forget_others.ensures.spends.honest) honest)) c.blank_written.ensures.each
