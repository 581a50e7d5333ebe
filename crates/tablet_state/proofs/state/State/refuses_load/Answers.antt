use Rattle.std.proofs.Common.{◌≡◌, ◌+◌, ◌∙◌, sym, ap, subst, length, arith}
use Rattle.tablet_state.specs.State.{Shown}
use Rattle.tablet_state.proofs.Refusing.{full_refuses}
use Rattle.tablet_state.proofs.state.State.refuses_load.Goals as goal

pub returns-then-len-eq-MOST_VERSIONS-clause-step : goal.returns-then-len-eq-MOST_VERSIONS-clause-step
returns-then-len-eq-MOST_VERSIONS-clause-step g c b seq load h =
    full_refuses g.S.Store.view c.args.self.now b seq load h (sym (ap (λ (x : Shown g.row.S.Denot). x.closed) c.self.view_is) ∙ c.in-None.is)
    (subst (λ (x : Shown g.row.S.Denot). length x.contents.older + 1 ≡ 1000) c.self.view_is (omega (arith, c.if-len-eq-MOST_VERSIONS.true, c.len.ensures, c.self.inside.older.ok.0)))
