use Rattle.std.proofs.Common.{refl, subst}
use Rattle.tablet_state.proofs.Calming.{HasStill, has_calm}
use Rattle.tablet_state.proofs.state.State.take_calls.Goals as goal

pub returns-clause-has : goal.returns-clause-has
returns-clause-has g c b =
    subst (HasStill g.S.Store.view b _) c.self.view_is (has_calm g.S.Store.view _ _ b c.room.ensures.calm refl refl refl refl (λ stored read. read))
