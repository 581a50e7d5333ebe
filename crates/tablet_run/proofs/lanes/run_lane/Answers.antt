use Rattle.std.proofs.Common.{◌≡◌, refl, ap, sym, subst, ◌∙◌, ◌+◌, ◌++◌, ◌∷◌, [], arith, ℕ, length, take, List}
use Rattle.std.proofs.lemmas.List.{length-take}
use Rattle.reports.specs.declared.jobs.FiledJob.{FiledJob}
use Rattle.tablet_run.specs.Doing.{HasDone, faults_beside}
use Rattle.tablet_run.proofs.DoneLaws.{done-next, done-none}
use Rattle.tablet_run.proofs.InputLaws.{take-next}
use Rattle.tablet_run.proofs.lanes.run_lane.Goals as goal

pub loop-i-init : goal.loop-i-init
loop-i-init g c =
    let orders = c.in_ok-order.ensures.capacity in
    let few = c.requires.few in
    let outs = c.in_ok-outcomes.ensures.capacity in
    record {
      done = done-none g.S.Store.view c.args.state.now.contents.schema c.args.state.now _ c.in_ok-order.order.items c.in_ok-outcomes.outcomes.items refl c.requires.open c.in_ok-order.ensures.items c.in_ok-outcomes.ensures.items;
      order_room = omega (arith, orders);
      outcomes_room = omega (arith, outs);
    }

pub loop-i-preserved : goal.loop-i-preserved
loop-i-preserved g c =
    let jobs = c.args.jobs.now in
    let i = c.loop-i.i in
    let job : FiledJob = c.index-jobs-i.result in
    let size = length-take i jobs in
    let less = c.loop-i-test.true in
    let more : take (i + 1) jobs ≡ take i jobs ++ job ∷ [] = take-next jobs i job less ∙ ap (λ (j : FiledJob). take i jobs ++ j ∷ []) (sym c.index-jobs-i.is) in
    let kept = c.note.ensures.order_kept in
    let kept_too = c.note.ensures.outcomes_kept in
    let room = c.loop-i.invariant.order_room in
    let room_too = c.loop-i.invariant.outcomes_room in
    let count = c.len.ensures in
    record {
      done = subst (λ js. HasDone g.S.Store.view c.args.state.now.contents.schema c.args.state.now c.do_job-done.new.state
          (faults_beside g.S.Store.view c.args.state.now (g.S.Maker.FileMaker.view c.args.maker.now).faults)
          (faults_beside g.S.Store.view c.do_job-done.new.state (g.S.Maker.FileMaker.view c.do_job-done.new.maker).faults)
          js c.note.new.order.items c.note.new.outcomes.items) (sym more)
          (done-next g.S.Store.view c.args.state.now.contents.schema c.args.state.now c.loop-i.state c.do_job-done.new.state _ _ _ _ (i + 1) (take i jobs) job
          c.loop-i.order.items c.note.new.order.items c.loop-i.outcomes.items c.note.new.outcomes.items c.do_job-done.result
          c.loop-i.invariant.done c.do_job-done.ensures (omega (arith, count)) (omega (arith, size, less)) c.note.ensures.order c.note.ensures.outcomes);
      order_room = omega (arith, kept, room);
      outcomes_room = omega (arith, kept_too, room_too);
    }
