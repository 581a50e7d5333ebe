use Rattle.core_recover.proofs.AreaFacts.{on_so}
use Rattle.core_recover.proofs.CreateFacts.{both_clear, clean_so, each_rest, index_rest}
use Rattle.core_recover.proofs.creating.clear.Goals as goal

pub returns-clause-moments : goal.returns-clause-moments
returns-clause-moments g c =
    both_clear (g.S.Store.view c.args.store.now) (g.S.Store.view c.drop_rest.new.store) (g.S.Store.view c.blank_both.new.store) c.drop_rest.ensures.moments c.blank_both.ensures.moments

pub returns-clause-clean : goal.returns-clause-clean
returns-clause-clean g c = on_so c.blank_both.result _ _ (λ read.
    clean_so (g.S.Store.view c.drop_rest.new.store) (g.S.Store.view c.blank_both.new.store) c.blank_both.ensures.spends.tells c.in_ok-drop_rest.ensures.none c.blank_both.ensures.elsewhere read) c.blank_both.ensures.read

pub returns-clause-index : goal.returns-clause-index
returns-clause-index g c = on_so c.blank_both.result _ _ (λ read.
    index_rest (g.S.Store.view c.drop_rest.new.store) (g.S.Store.view c.blank_both.new.store) c.blank_both.ensures.spends.tells c.in_ok-drop_rest.ensures.index c.blank_both.ensures.elsewhere) c.blank_both.ensures.read

pub returns-clause-each_index : goal.returns-clause-each_index
returns-clause-each_index g c = on_so c.blank_both.result _ _ (λ read honest.
    each_rest (g.S.Store.view c.drop_rest.new.store) (g.S.Store.view c.blank_both.new.store) (c.in_ok-drop_rest.ensures.each_index honest) c.blank_both.ensures.moments) c.blank_both.ensures.read
