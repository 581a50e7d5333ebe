use Rattle.dev_traits.proofs.Moments.{leaves_still}
use Rattle.dev_traits.specs.Image.{Same}
use Rattle.core_recover.proofs.AreaFacts.{all_three, on_so, synced_still}
use Rattle.core_recover.proofs.areas.sync_areas.Goals as goal

pub returns-in_err-sync_written-2-clause-crash : goal.returns-in_err-sync_written-2-clause-crash
returns-in_err-sync_written-2-clause-crash g c = leaves_still Same _ _ _ c.sync_written.ensures.crash c.sync_written-2.ensures.crash

pub returns-clause-crash : goal.returns-clause-crash
returns-clause-crash g c = leaves_still Same _ _ _ (leaves_still Same _ _ _ c.sync_written.ensures.crash c.sync_written-2.ensures.crash) c.sync_written-3.ensures.crash

pub returns-clause-synced : goal.returns-clause-synced
returns-clause-synced g c =
    let one = g.S.Store.view c.sync_written.new.store in
    let two = g.S.Store.view c.sync_written-2.new.store in
    let three = g.S.Store.view c.sync_written-3.new.store in
    let zeroth = synced_still 0 two three c.sync_written-3.ensures.seen c.sync_written-3.ensures.crash (synced_still 0 one two c.sync_written-2.ensures.seen c.sync_written-2.ensures.crash c.in_ok-sync_written.ensures.synced) in
    let first = synced_still 1 two three c.sync_written-3.ensures.seen c.sync_written-3.ensures.crash c.in_ok-sync_written-2.ensures.synced in
    on_so c.sync_written-3.result _ _ (λ second. all_three three zeroth first second) c.sync_written-3.ensures.synced
