use Rattle.std.proofs.Common.{◌≡◌, ◌∙◌, ap, sym, ℕ, ◌+◌, min, arith}
use Rattle.core_recover.proofs.recovering.state_of.Goals as goal

pub returns-clause-book : goal.returns-clause-book
returns-clause-book g c s b o = (c.of.ensures.book b o.image o.read, ap (λ x. x.schema) c.of.ensures.contents ∙ o.schema)
