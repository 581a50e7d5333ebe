use Rattle.dev_traits.proofs.Moments.{calm_then}
use Rattle.segment_uses.proofs.round_trips.sealed_rows.Goals as goal

pub returns-in_err-made-clause-calm : goal.returns-in_err-made-clause-calm
returns-in_err-made-clause-calm g c =
    calm_then (g.S.Store.view c.args.store.now) (g.S.Store.view c.maker.new.self) (g.S.Store.view c.give_back.new.self) c.in_ok-maker.ensures.calm c.give_back.ensures.calm

pub returns-clause-calm : goal.returns-clause-calm
returns-clause-calm g c =
    calm_then (g.S.Store.view c.args.store.now) (g.S.Store.view c.maker.new.self) (g.S.Store.view c.give_back.new.self) c.in_ok-maker.ensures.calm c.give_back.ensures.calm
