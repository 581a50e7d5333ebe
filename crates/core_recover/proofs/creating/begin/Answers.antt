use Rattle.std.proofs.Common.{◌≡◌, ◌⊎◌, ◌∙◌, inl, sym, subst, IsTrue, Bool, None}
use Rattle.dev_traits.proofs.Moments.{calm_then}
use Rattle.version_journal.specs.Commits.{IsDue}
use Rattle.version_journal.specs.Images.{HasNoRecord, IsSaid}
use Rattle.core_recover.specs.Creating.{first_standing}
use Rattle.core_recover.proofs.CreateFacts.{calm_each, calm_only, only_after, only_behind}
use Rattle.core_recover.proofs.creating.begin.Goals as goal

pub returns-in_err-maker-clause-any_moment : goal.returns-in_err-maker-clause-any_moment
returns-in_err-maker-clause-any_moment g c = λ honest none.
    let v0 = g.S.Store.view c.args.store.now in
    let v1 = g.S.Store.view c.room-2.new.self in
    let v2 = g.S.Store.view c.maker.new.self in
    calm_only (λ left. HasNoRecord left ⊎ IsSaid left (first_standing c.args.schema)) v0 v2 (λ i since. g.met.S.Store.only_now c.args.store.now i since) (calm_then v0 v1 v2 c.room-2.ensures.calm c.maker.ensures.calm) (λ i may. inl (none i may))

pub returns-in-Ok-clause-reads : goal.returns-in-Ok-clause-reads
returns-in-Ok-clause-reads g c = c.in-Ok.ensures.reads (first_standing c.args.schema) c.in_ok-journal.ensures.due

pub returns-in-Ok-clause-any_moment : goal.returns-in-Ok-clause-any_moment
returns-in-Ok-clause-any_moment g c = λ honest none.
    let v0 = g.S.Store.view c.args.store.now in
    let v1 = g.S.Store.view c.room-2.new.self in
    let v2 = g.S.Store.view c.maker.new.self in
    let v3 = g.S.Store.view c.write_first.new.store in
    let calm = calm_then v0 v1 v2 c.room-2.ensures.calm c.maker.ensures.calm in
    only_after (λ left. HasNoRecord left ⊎ IsSaid left (first_standing c.args.schema)) v0 v2 v3 calm
    (c.write_first.ensures.any_moment (first_standing c.args.schema) c.in_ok-journal.ensures.due
    (subst (λ (t : Bool). IsTrue t) (sym calm.honest) honest) (calm_each HasNoRecord v0 v2 calm none))

pub returns-clause-any_moment : goal.returns-clause-any_moment
returns-clause-any_moment g c = λ honest none.
    let v0 = g.S.Store.view c.args.store.now in
    let v1 = g.S.Store.view c.room-2.new.self in
    let v2 = g.S.Store.view c.maker.new.self in
    let v3 = g.S.Store.view c.write_first.new.store in
    let calm = calm_then v0 v1 v2 c.room-2.ensures.calm c.maker.ensures.calm in
    only_behind (λ left. HasNoRecord left ⊎ IsSaid left (first_standing c.args.schema)) v0 v3 (g.S.Store.view c.give_back.new.self)
    (only_after (λ left. HasNoRecord left ⊎ IsSaid left (first_standing c.args.schema)) v0 v2 v3 calm
    (c.write_first.ensures.any_moment (first_standing c.args.schema) c.in_ok-journal.ensures.due
    (subst (λ (t : Bool). IsTrue t) (sym calm.honest) honest) (calm_each HasNoRecord v0 v2 calm none))) c.give_back.ensures.calm

pub returns-in-Ok-clause-each_index : goal.returns-in-Ok-clause-each_index
returns-in-Ok-clause-each_index g c = λ honest.
    let calm = calm_then (g.S.Store.view c.args.store.now) (g.S.Store.view c.room-2.new.self) (g.S.Store.view c.maker.new.self) c.room-2.ensures.calm c.maker.ensures.calm in
    c.in-Ok.ensures.each_index (first_standing c.args.schema) c.in_ok-journal.ensures.due (subst (λ (t : Bool). IsTrue t) (sym calm.honest) honest)
