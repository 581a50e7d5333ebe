use Rattle.std.proofs.Common.{◌≡◌, refl, subst, ap, ◌∙◌, None}
use Rattle.tablet_state.specs.State.{Shown}
use Rattle.tablet_state.proofs.Calming.{HasClosed, closes}
use Rattle.tablet_state.proofs.state.State.close_at.Goals as goal

pub returns-clause-has : goal.returns-clause-has
returns-clause-has g c b =
    let open_ : c.self.inside.closed ≡ None = ap (λ (x : Shown g.row.S.Denot). x.closed) c.self.view_is ∙ c.requires.open in
    subst (HasClosed g.S.Store.view b c.args.place _) c.self.view_is (closes g.S.Store.view _ _ b c.args.place refl refl refl open_)
