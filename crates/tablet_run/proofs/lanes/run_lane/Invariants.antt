use Rattle.std.proofs.Common.{◌≡◌, ◌≤◌, ◌*◌, length, take, vec_capacity}
use Rattle.tablet_run.specs.Doing.{HasDone, faults_beside}
use Rattle.tablet_run.proofs.lanes.run_lane.Given as goal

abbrev pub invariant-loop-i : goal.invariant-loop-i
invariant-loop-i g l = record {
  done : HasDone g.S.Store.view l.initial.state.contents.schema l.initial.state l.state
      (faults_beside g.S.Store.view l.initial.state (g.S.Maker.FileMaker.view l.initial.maker).faults)
      (faults_beside g.S.Store.view l.state (g.S.Maker.FileMaker.view l.maker).faults)
      (take l.i l.jobs) l.order.items l.outcomes.items;
  order_room : 3 * length l.jobs ≤ vec_capacity l.order;
  outcomes_room : length l.jobs ≤ vec_capacity l.outcomes;
}
