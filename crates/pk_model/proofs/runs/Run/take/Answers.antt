use Rattle.std.proofs.Common.{sym, ◌∙◌}
use Rattle.std.proofs.lemmas.Option.{MatchOption-at_none}
use Rattle.pk_model.proofs.RunLaws.{below-unless_last, taken, taken-below}
use Rattle.pk_model.proofs.runs.Run.take.Goals as goal

pub returns-then-not-ends_at-clause-below : goal.returns-then-not-ends_at-clause-below
returns-then-not-ends_at-clause-below c = λ s u. below-unless_last c.args.key.now _ s u (sym c.ends_at.ensures ∙ c.if-not-ends_at.true)

pub returns-clause-found : goal.returns-clause-found
returns-clause-found c =
    let old = c.args.self.now in
    taken c.args.key.now old.keys.items old.rows.items c.pop.new.self.items c.pop-2.new.self.items c.pop.result c.pop-2.result
    c.pop.ensures.items c.pop-2.ensures.items old.even
    (λ e. sym old.keys.ok.0 ∙ (MatchOption-at_none _ _ e c.pop.ensures.cases).0)
    (sym c.ends_at.ensures ∙ c.if-not-ends_at.false)

pub returns-clause-below : goal.returns-clause-below
returns-clause-below c = λ s u.
    let old = c.args.self.now in
    taken-below c.args.key.now old.keys.items old.rows.items c.pop.new.self.items c.pop-2.new.self.items c.pop.result c.pop-2.result
    c.pop.ensures.items c.pop-2.ensures.items old.even
    (λ e. sym old.keys.ok.0 ∙ (MatchOption-at_none _ _ e c.pop.ensures.cases).0)
    (λ e. sym old.rows.ok.0 ∙ (MatchOption-at_none _ _ e c.pop-2.ensures.cases).0)
    (sym c.ends_at.ensures ∙ c.if-not-ends_at.false) s
