use Rattle.dev_traits.proofs.Moments.{calm_before, calm_leaves}
use Rattle.dev_traits.specs.Image.{Same}
use Rattle.core_recover.proofs.AreaFacts.{on_so, read_empty, synced_now}
use Rattle.core_recover.proofs.areas.sync_written.Goals as goal

pub returns-in_err-length-clause-crash : goal.returns-in_err-length-clause-crash
returns-in_err-length-clause-crash g c = calm_leaves _ _ c.length.ensures.calm

pub returns-then-branch-eq0-clause-crash : goal.returns-then-branch-eq0-clause-crash
returns-then-branch-eq0-clause-crash g c = calm_leaves _ _ c.length.ensures.calm

pub returns-clause-crash : goal.returns-clause-crash
returns-clause-crash g c = calm_before Same _ _ _ c.length.ensures.calm c.sync.ensures.crash

pub returns-then-branch-eq0-clause-synced : goal.returns-then-branch-eq0-clause-synced
returns-then-branch-eq0-clause-synced g c = read_empty c.args.area _ (g.S.Store.view c.args.store.now) (g.S.Store.view c.length.new.self) c.in_ok-length.ensures.length c.if-branch-eq0.true c.length.ensures.calm.seen

pub returns-clause-synced : goal.returns-clause-synced
returns-clause-synced g c = on_so c.sync.result _ _ (λ synced. synced_now c.args.area (g.S.Store.view c.sync.new.self) synced) c.sync.ensures.durable
