use Rattle.std.proofs.Common.{refl, subst}
use Rattle.tablet_state.proofs.Calming.{HasStill, RestsFrom, has_calm, keeps_calm}
use Rattle.tablet_state.proofs.state.State.give_back_snapshot.Goals as goal

pub invariant_of-self : goal.invariant_of-self
invariant_of-self g c = keeps_calm _ _ _ _ _ _ _ c.give_back_snapshot.ensures.calm c.self.invariant

pub returns-clause-rests : goal.returns-clause-rests
returns-clause-rests g c =
    subst (RestsFrom g.S.Store.view _) c.self.view_is (record { calm = c.give_back_snapshot.ensures.calm; area = refl; end = refl; contents = refl; segments = refl; closed = refl })

pub returns-clause-has : goal.returns-clause-has
returns-clause-has g c b =
    subst (HasStill g.S.Store.view b _) c.self.view_is (has_calm g.S.Store.view _ _ b c.give_back_snapshot.ensures.calm refl refl refl refl (λ stored read. read))
