use Rattle.std.proofs.Common.{subst}
use Rattle.dev_traits.specs.View.{Calm}
use Rattle.dev_traits.proofs.Moments.{calm_then}
use Rattle.tablet_state.specs.State.{Shown}
use Rattle.tablet_state.proofs.Calming.{StandsAfter, stands_after}
use Rattle.tablet_state.proofs.state.State.into_store.Goals as goal

pub returns-clause-calm : goal.returns-clause-calm
returns-clause-calm g c =
    subst (λ (x : Shown g.row.S.Denot). Calm (g.S.Store.view x.store) (g.S.Store.view c.give_back_readers.new.store)) c.self.view_is
    (calm_then _ _ _ c.give_back.ensures.calm c.give_back_readers.ensures.calm)

pub returns-clause-stands : goal.returns-clause-stands
returns-clause-stands g c =
    subst (StandsAfter g.S.Store.view (g.S.Store.view c.give_back_readers.new.store)) c.self.view_is
    (stands_after g.S.Store.view (g.S.Store.view c.give_back_readers.new.store) _ (calm_then _ _ _ c.give_back.ensures.calm c.give_back_readers.ensures.calm))
