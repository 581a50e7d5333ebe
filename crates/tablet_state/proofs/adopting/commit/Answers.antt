use Rattle.tablet_state.proofs.Chain.{adopting, any_moment, settled_after, files_after, ready_still, ready_after, log_still, log_after, free_elsewhere}
use Rattle.tablet_state.proofs.adopting.commit.Goals as goal

pub returns-in_err-adopt_all-clause-any_moment : goal.returns-in_err-adopt_all-clause-any_moment
returns-in_err-adopt_all-clause-any_moment g c bodies settled = adopting _ bodies _ _ _ _ _ _ settled c.adopt_all.ensures.crash

pub append-requires-clause-log : goal.append-requires-clause-log
append-requires-clause-log g c =
    log_still _ _ (g.S.Store.view c.args.store.now) (g.S.Store.view c.adopt_all.new.store) c.adopt_all.ensures.spends.tells c.in_ok-adopt_all.ensures.areas c.requires.log

pub append-requires-clause-ready : goal.append-requires-clause-ready
append-requires-clause-ready g c =
    ready_still _ _ (g.S.Store.view c.args.store.now) (g.S.Store.view c.adopt_all.new.store) c.adopt_all.ensures.spends.honest c.adopt_all.ensures.crash c.requires.ready

pub returns-in_err-append-clause-any_moment : goal.returns-in_err-append-clause-any_moment
returns-in_err-append-clause-any_moment g c =
    any_moment _ _ _ _ _ _ _ _ c.adopt_all.ensures.crash c.adopt_all.ensures.spends.honest c.in_ok-adopt_all.ensures.there c.append.ensures.any_moment

pub returns-clause-any_moment : goal.returns-clause-any_moment
returns-clause-any_moment g c =
    any_moment _ _ _ _ _ _ _ _ c.adopt_all.ensures.crash c.adopt_all.ensures.spends.honest c.in_ok-adopt_all.ensures.there c.append.ensures.any_moment

pub returns-clause-settled : goal.returns-clause-settled
returns-clause-settled g c =
    settled_after _ _ _ _ _ _ _ _ c.adopt_all.ensures.crash c.adopt_all.ensures.spends.honest c.in_ok-adopt_all.ensures.there c.append.ensures.any_moment
    _ _ c.in_ok-append.ensures.acknowledged

pub returns-clause-there : goal.returns-clause-there
returns-clause-there g c =
    files_after _ _ _ _ _ _ _ _ c.adopt_all.ensures.crash c.adopt_all.ensures.spends.honest c.in_ok-adopt_all.ensures.there c.append.ensures.any_moment

pub returns-clause-ready : goal.returns-clause-ready
returns-clause-ready g c =
    ready_after _ _ _ _ _ _ _ _ c.adopt_all.ensures.crash c.adopt_all.ensures.spends.honest c.in_ok-adopt_all.ensures.there c.append.ensures.any_moment
    _ _ c.append.ensures.spends.honest c.in_ok-append.ensures.acknowledged c.requires.ready

pub returns-clause-log : goal.returns-clause-log
returns-clause-log g c =
    log_after _ _ c.args.body.now c.args.log.now.end c.append.new.log.end (g.S.Store.view c.adopt_all.new.store) (g.S.Store.view c.append.new.store) c.append.ensures.spends.tells
    (log_still _ _ (g.S.Store.view c.args.store.now) (g.S.Store.view c.adopt_all.new.store) c.adopt_all.ensures.spends.tells c.in_ok-adopt_all.ensures.areas c.requires.log)
    c.in_ok-append.ensures.appended

pub returns-clause-free : goal.returns-clause-free
returns-clause-free g c =
    free_elsewhere _ _ (g.S.Store.view c.adopt_all.new.store) (g.S.Store.view c.append.new.store) c.append.ensures.spends.tells c.append.ensures.elsewhere c.in_ok-adopt_all.ensures.free
