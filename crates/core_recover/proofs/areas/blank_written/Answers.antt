use Rattle.std.proofs.Common.{◌≡◌, ◌∙◌, inl, inr, sym, subst, IsTrue, Bool}
use Rattle.core_recover.proofs.AreaFacts.{blanked_reads, calm_blanked, each_empty, empty_reads, on_so, then_blanked}
use Rattle.core_recover.proofs.areas.blank_written.Goals as goal

pub returns-in_err-length-clause-crash : goal.returns-in_err-length-clause-crash
returns-in_err-length-clause-crash g c = calm_blanked c.args.area _ _ c.length.ensures.calm

pub returns-then-branch-eq0-clause-crash : goal.returns-then-branch-eq0-clause-crash
returns-then-branch-eq0-clause-crash g c = calm_blanked c.args.area _ _ c.length.ensures.calm

pub returns-clause-crash : goal.returns-clause-crash
returns-clause-crash g c = then_blanked c.args.area _ _ _ c.length.ensures.calm c.blank.ensures.crash

pub returns-then-branch-eq0-clause-read : goal.returns-then-branch-eq0-clause-read
returns-then-branch-eq0-clause-read g c = empty_reads c.args.area _ (g.S.Store.view c.args.store.now) (g.S.Store.view c.length.new.self) c.in_ok-length.ensures.length c.if-branch-eq0.true c.length.ensures.calm.seen

pub returns-then-branch-eq0-clause-each : goal.returns-then-branch-eq0-clause-each
returns-then-branch-eq0-clause-each g c = λ honest.
    let new = g.S.Store.view c.length.new.self in
    let still : IsTrue new.is_honest = subst (λ (b : Bool). IsTrue b) (sym c.length.ensures.calm.honest) honest in
    each_empty c.args.area _ (g.S.Store.view c.args.store.now) new c.in_ok-length.ensures.length c.if-branch-eq0.true c.length.ensures.calm.seen
    (g.met.S.Store.honest_reads c.length.new.self still) (g.met.S.Store.honest_empty c.length.new.self still)

pub returns-clause-read : goal.returns-clause-read
returns-clause-read g c = on_so c.blank.result _ _ (λ blank image told. inr (blanked_reads c.args.area (g.S.Store.view c.length.new.self) (g.S.Store.view c.blank.new.self) (g.met.S.Store.three_areas c.length.new.self) c.requires.there blank image told)) c.blank.ensures.blank

pub returns-clause-each : goal.returns-clause-each
returns-clause-each g c = on_so c.blank.result _ _ (λ durable honest left may. inr (durable left may)) c.blank.ensures.durable
