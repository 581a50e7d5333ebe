use Rattle.std.proofs.Common.{◌++◌, ◌∷◌, [], ◌∙◌, ℕ, Bool, IsTrue, subst}
use Rattle.dev_traits.specs.View.{View}
use Rattle.gated_log.specs.Log.{IsSettled}
use Rattle.tablet_state.specs.Adopting.{TellsLog}
use Rattle.tablet_state.proofs.Chain.{log_after}
use Rattle.tablet_state.proofs.Raising.{appending, forgetting, log_forgotten, settled_forgotten}
use Rattle.tablet_state.proofs.keeping.commit_floor.Goals as goal

pub returns-in_err-append-clause-any_moment : goal.returns-in_err-append-clause-any_moment
returns-in_err-append-clause-any_moment g c = λ bodies settled.
    appending c.args.log.now.area c.args.log.now.end bodies c.args.body.now c.args.keep.now (g.S.Store.view c.args.store.now) (g.S.Store.view c.append.new.store) settled (c.append.ensures.any_moment bodies settled)

pub returns-in_err-forget_others-clause-any_moment : goal.returns-in_err-forget_others-clause-any_moment
returns-in_err-forget_others-clause-any_moment g c = λ bodies settled.
    let u : View = g.S.Store.view c.args.store.now in
    let v : View = g.S.Store.view c.append.new.store in
    let w : View = g.S.Store.view c.forget_others.new.self in
    let done : IsSettled c.args.log.now.area (bodies ++ c.args.body.now ∷ []) c.append.new.log.end v =
    subst (λ (a : ℕ). IsSettled a (bodies ++ c.args.body.now ∷ []) c.append.new.log.end v) c.append.ensures.area (c.in_ok-append.ensures.acknowledged bodies settled) in
    forgetting c.args.log.now.area c.args.log.now.end bodies c.args.body.now c.args.keep.now u v settled (c.append.ensures.any_moment bodies settled) w c.append.new.log.end done c.forget_others.ensures.crash

pub returns-clause-any_moment : goal.returns-clause-any_moment
returns-clause-any_moment g c = λ bodies settled.
    let u : View = g.S.Store.view c.args.store.now in
    let v : View = g.S.Store.view c.append.new.store in
    let w : View = g.S.Store.view c.forget_others.new.self in
    let done : IsSettled c.args.log.now.area (bodies ++ c.args.body.now ∷ []) c.append.new.log.end v =
    subst (λ (a : ℕ). IsSettled a (bodies ++ c.args.body.now ∷ []) c.append.new.log.end v) c.append.ensures.area (c.in_ok-append.ensures.acknowledged bodies settled) in
    forgetting c.args.log.now.area c.args.log.now.end bodies c.args.body.now c.args.keep.now u v settled (c.append.ensures.any_moment bodies settled) w c.append.new.log.end done c.forget_others.ensures.crash

pub returns-clause-settled : goal.returns-clause-settled
returns-clause-settled g c = λ bodies settled.
    settled_forgotten c.args.keep.now c.append.new.log.area (bodies ++ c.args.body.now ∷ []) c.append.new.log.end (g.S.Store.view c.append.new.store) (g.S.Store.view c.forget_others.new.self) c.forget_others.ensures.spends.honest
    c.forget_others.ensures.crash (c.in_ok-append.ensures.acknowledged bodies settled)

pub returns-clause-log : goal.returns-clause-log
returns-clause-log g c =
    let u : View = g.S.Store.view c.args.store.now in
    let v : View = g.S.Store.view c.append.new.store in
    let w : View = g.S.Store.view c.forget_others.new.self in
    let log : TellsLog c.append.new.log.area c.append.new.log.end v =
    log_after c.args.log.now.area c.append.new.log.area c.args.body.now c.args.log.now.end c.append.new.log.end u v c.append.ensures.spends.tells c.requires.log c.in_ok-append.ensures.appended in
    log_forgotten c.args.keep.now c.append.new.log.area c.append.new.log.end v w c.forget_others.ensures.spends.tells c.in_ok-forget_others.ensures.forgot log

pub returns-clause-ready : goal.returns-clause-ready
returns-clause-ready g c = λ is.
    let old = c.requires.ready (subst (λ (b : Bool). IsTrue b) (c.forget_others.ensures.spends.honest ∙ c.append.ensures.spends.honest) is) in (
      old.0 ++ c.args.body.now ∷ [],
      settled_forgotten c.args.keep.now c.append.new.log.area (old.0 ++ c.args.body.now ∷ []) c.append.new.log.end (g.S.Store.view c.append.new.store) (g.S.Store.view c.forget_others.new.self) c.forget_others.ensures.spends.honest
          c.forget_others.ensures.crash (c.in_ok-append.ensures.acknowledged old.0 old.1),
    )
