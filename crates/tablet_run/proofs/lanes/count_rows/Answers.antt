use Rattle.tablet_run.proofs.DoingLaws.{stat-does}
use Rattle.tablet_run.proofs.LaneFacts.{tells-shut}
use Rattle.tablet_run.proofs.lanes.count_rows.Goals as goal

pub returns : goal.returns
returns g c = λ j n place is. stat-does g.S.Store.view j place is c.args.state.now c.stat.result n c.stat.ensures.turn c.stat.ensures.only (tells-shut c.args.state.now.closed c.stat.result c.stat.ensures.tells)
