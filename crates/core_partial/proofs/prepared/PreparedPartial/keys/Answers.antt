use Rattle.std.proofs.Common.{◌≡◌, ◌∙◌, ap, subst, false}
use Rattle.core_partial.specs.Prepared.{IsPreparedPartial, PreparedPartialView}
use Rattle.core_partial.proofs.prepared.PreparedPartial.keys.Goals as goal

pub returns-clause-prepared : goal.returns-clause-prepared
returns-clause-prepared g c e =
    subst IsPreparedPartial c.self.view_is (c.self.invariant.1 (ap (λ (p : PreparedPartialView). p.spent) c.self.view_is ∙ e))
