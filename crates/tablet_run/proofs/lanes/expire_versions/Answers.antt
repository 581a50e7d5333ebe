use Rattle.tablet_run.proofs.ExpireLaws.{expire-does}
use Rattle.tablet_run.proofs.lanes.expire_versions.Goals as goal

pub returns : goal.returns
returns g c = λ j n is.
    let e = c.expire.ensures in
    expire-does g.S.Store.view c.args.state.now c.expire.new.state c.args.v c.expire.result e.refused e.raised j c.args.place n is
    e.floor e.memory (λ k fault. (e.same k fault).0) e.turn e.any_moment e.only e.tells e.shut e.honest e.faults
