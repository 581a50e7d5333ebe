use Rattle.std.proofs.Common.{◌∙◌, refl}
use Rattle.tablet_run.proofs.DoneLaws.{lane-kept, lane-runs, unbegun-kept}
use Rattle.tablet_run.proofs.runs.run_jobs.Goals as goal

pub returns-in-Err-clause-kept : goal.returns-in-Err-clause-kept
returns-in-Err-clause-kept g c =
    unbegun-kept g.S.Store.view c.args.state c.lane_maker.new.self (g.S.Store.view c.into_store.result) c.lane_maker.ensures.rests c.lane_maker.ensures.has c.into_store.ensures.stands c.requires.open

pub returns-in-Err-clause-honest : goal.returns-in-Err-clause-honest
returns-in-Err-clause-honest g c = c.into_store.ensures.calm.honest ∙ c.lane_maker.ensures.rests.calm.honest

pub returns-in-Ok-told-clause-ran : goal.returns-in-Ok-told-clause-ran
returns-in-Ok-told-clause-ran g c =
    lane-runs g.S.Store.view c.args.state c.lane_maker.new.self c.run_lane-told.new.state c.give_back.new.self c.lane_maker.ensures.rests c.lane_maker.ensures.has
    c.give_back.ensures.rests c.give_back.ensures.has (g.S.Store.view c.into_store-left.result) c.into_store-left.ensures.calm c.into_store-left.ensures.stands
    (g.S.Maker.FileMaker.view c.in-Ok.maker).faults (g.S.Maker.FileMaker.view c.run_lane-told.new.maker).faults c.args.jobs.now c.in-Ok-told.told.order c.in-Ok-told.told.outcomes
    c.lane_maker.ensures.faults c.in-Ok-told.ensures.done c.requires.phases c.give_back.ensures.faults c.into_store-left.ensures.counts
    (g.met.S.Store.honest_reads c.into_store-left.result)

pub returns-in-Ok-told-clause-honest : goal.returns-in-Ok-told-clause-honest
returns-in-Ok-told-clause-honest g c =
    c.into_store-left.ensures.calm.honest ∙ c.give_back.ensures.rests.calm.honest ∙ c.in-Ok-told.ensures.done.honest ∙ c.lane_maker.ensures.rests.calm.honest

pub returns-in-Err-told-clause-kept : goal.returns-in-Err-told-clause-kept
returns-in-Err-told-clause-kept g c =
    lane-kept g.S.Store.view c.args.state c.lane_maker.new.self c.run_lane-told.new.state c.give_back.new.self c.lane_maker.ensures.rests c.lane_maker.ensures.has
    c.give_back.ensures.rests c.give_back.ensures.has (g.S.Store.view c.into_store-left.result) c.into_store-left.ensures.calm c.into_store-left.ensures.stands
    c.in-Err-told.ensures.state c.requires.open
