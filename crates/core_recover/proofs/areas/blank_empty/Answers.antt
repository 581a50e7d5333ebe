use Rattle.std.proofs.Common.{◌≡◌, ◌∙◌, ap, sym, subst, IsTrue, Bool, arith}
use Rattle.dev_traits.specs.View.{View}
use Rattle.core_recover.proofs.AreaFacts.{blank_in, blanked_still, calm_blanked, calm_in, full_synced, none_blanked, on_so, then_blanked}
use Rattle.core_recover.proofs.areas.blank_empty.Goals as goal

pub returns-in_err-length-clause-crash : goal.returns-in_err-length-clause-crash
returns-in_err-length-clause-crash g c = calm_blanked c.args.area _ _ c.length.ensures.calm

pub returns-in_err-length-clause-moments : goal.returns-in_err-length-clause-moments
returns-in_err-length-clause-moments g c = calm_in _ (g.S.Store.view c.length.new.self) c.length.ensures.calm

pub returns-then-branch-eq0-clause-crash : goal.returns-then-branch-eq0-clause-crash
returns-then-branch-eq0-clause-crash g c = then_blanked c.args.area _ _ _ c.length.ensures.calm c.blank.ensures.crash

pub returns-then-branch-eq0-clause-moments : goal.returns-then-branch-eq0-clause-moments
returns-then-branch-eq0-clause-moments g c =
    blank_in c.args.area _ (g.S.Store.view c.args.store.now) (g.S.Store.view c.length.new.self) (g.S.Store.view c.blank.new.self) c.length.ensures.calm c.in_ok-length.ensures.length c.if-branch-eq0.true c.blank.ensures.crash

pub returns-clause-crash : goal.returns-clause-crash
returns-clause-crash g c = calm_blanked c.args.area _ _ c.length.ensures.calm

pub returns-clause-moments : goal.returns-clause-moments
returns-clause-moments g c = calm_in _ (g.S.Store.view c.length.new.self) c.length.ensures.calm

pub returns-clause-synced : goal.returns-clause-synced
returns-clause-synced g c = λ was. full_synced c.args.area _ (g.S.Store.view c.args.store.now) (g.S.Store.view c.length.new.self) c.length.ensures.calm c.in_ok-length.ensures.length (λ e. omega arith) was

pub returns-clause-seen : goal.returns-clause-seen
returns-clause-seen g c = none_blanked (g.S.Store.view c.args.store.now) (g.S.Store.view c.length.new.self) c.length.ensures.calm.seen

pub returns-in_err-length-clause-still : goal.returns-in_err-length-clause-still
returns-in_err-length-clause-still g c = λ honest. none_blanked (g.S.Store.view c.args.store.now) (g.S.Store.view c.length.new.self) c.length.ensures.calm.seen

pub returns-then-branch-eq0-clause-still : goal.returns-then-branch-eq0-clause-still
returns-then-branch-eq0-clause-still g c = λ honest.
    let old = g.S.Store.view c.args.store.now in
    let mid = g.S.Store.view c.length.new.self in
    let new = g.S.Store.view c.blank.new.self in
    let one : IsTrue mid.is_honest = subst (λ (b : Bool). IsTrue b) (sym c.length.ensures.calm.honest) honest in
    let two : IsTrue new.is_honest = subst (λ (b : Bool). IsTrue b) (sym c.blank.ensures.spends.honest) one in
    blanked_still c.args.area _ old mid new c.length.ensures.calm c.in_ok-length.ensures.length c.if-branch-eq0.true (g.met.S.Store.honest_empty c.length.new.self one) (g.met.S.Store.honest_reads c.blank.new.self two)
    c.blank.ensures.crash c.blank.ensures.elsewhere

pub returns-clause-still : goal.returns-clause-still
returns-clause-still g c = λ honest. none_blanked (g.S.Store.view c.args.store.now) (g.S.Store.view c.length.new.self) c.length.ensures.calm.seen
