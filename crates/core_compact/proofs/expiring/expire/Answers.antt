use Rattle.std.proofs.Common.{◌∙◌, sym, subst, ℕ, vec_capacity}
use Rattle.pk_model.specs.declared.calls.Call.TheVariants as call
use Rattle.pk_model.specs.declared.calls.Reply.TheVariants as reply
use Rattle.tablet_state.specs.Floors.{IsFloorMade}
use Rattle.tablet_state.specs.State.{StandsThroughout, Steps}
use Rattle.core_compact.proofs.ExpireFacts.{goes_on, moments_still, moments_then}
use Rattle.core_compact.proofs.expiring.expire.Goals as goal

pub ready_floor-requires-clause-open : goal.ready_floor-requires-clause-open
ready_floor-requires-clause-open g c = (goes_on c.args.state.now c.args.v (sym c.refuses_floor.ensures.refused ∙ c.in_default.is)).open_

pub ready_floor-requires-clause-unworn : goal.ready_floor-requires-clause-unworn
ready_floor-requires-clause-unworn g c = (goes_on c.args.state.now c.args.v (sym c.refuses_floor.ensures.refused ∙ c.in_default.is)).unworn

pub ready_floor-requires-clause-above : goal.ready_floor-requires-clause-above
ready_floor-requires-clause-above g c = (goes_on c.args.state.now c.args.v (sym c.refuses_floor.ensures.refused ∙ c.in_default.is)).above

pub ready_floor-requires-clause-reached : goal.ready_floor-requires-clause-reached
ready_floor-requires-clause-reached g c = (goes_on c.args.state.now c.args.v (sym c.refuses_floor.ensures.refused ∙ c.in_default.is)).reached

pub returns-in-Some-clause-turn : goal.returns-in-Some-clause-turn
returns-in-Some-clause-turn g c b h = c.in-Some.ensures.step b c.args.seq h

pub apply_floor-requires-clause-open : goal.apply_floor-requires-clause-open
apply_floor-requires-clause-open g c = c.ready_floor.ensures.rests.closed ∙ (goes_on c.args.state.now c.args.v (sym c.refuses_floor.ensures.refused ∙ c.in_default.is)).open_

pub apply_floor-requires-clause-made : goal.apply_floor-requires-clause-made
apply_floor-requires-clause-made g c =
    let mid = c.ready_floor.new.self in
    subst (λ (n : ℕ). IsFloorMade (g.S.Store.view mid.store) mid.contents mid.segments n c.in-Ok.ready.keep.items (vec_capacity c.in-Ok.ready.left) c.in-Ok.ready.body) (sym c.in-Ok.ensures.floor) c.in-Ok.ensures.made

pub returns-in-Ok-apply_floor-clause-turn : goal.returns-in-Ok-apply_floor-clause-turn
returns-in-Ok-apply_floor-clause-turn g c b h =
    subst (λ (n : ℕ). Steps g.S.Store.view c.apply_floor.new.self b c.args.seq (call.Expire n) (reply.Floor n)) c.in-Ok.ensures.floor (c.in-Ok-apply_floor.ensures.turn b (c.ready_floor.ensures.has b h))

pub returns-in-Ok-apply_floor-clause-any_moment : goal.returns-in-Ok-apply_floor-clause-any_moment
returns-in-Ok-apply_floor-clause-any_moment g c b h open_ =
    let st = c.args.state.now in
    let mid = c.ready_floor.new.self in
    moments_then g.S.Store.view st mid (g.S.Store.view c.apply_floor.new.self.store) b c.args.seq (call.Expire c.args.v) (g.met.S.Store.only_now st.store) h open_ c.ready_floor.ensures.rests.calm c.ready_floor.ensures.rests.contents
    (subst (λ (n : ℕ). StandsThroughout mid.contents.schema b c.args.seq (call.Expire n) (g.S.Store.view mid.store) (g.S.Store.view c.apply_floor.new.self.store)) c.in-Ok.ensures.floor (c.in-Ok-apply_floor.ensures.any_moment b (c.ready_floor.ensures.has b h)))

pub returns-in-Err-apply_floor-clause-any_moment : goal.returns-in-Err-apply_floor-clause-any_moment
returns-in-Err-apply_floor-clause-any_moment g c b h open_ =
    let st = c.args.state.now in
    let mid = c.ready_floor.new.self in
    moments_then g.S.Store.view st mid (g.S.Store.view c.apply_floor.new.self.store) b c.args.seq (call.Expire c.args.v) (g.met.S.Store.only_now st.store) h open_ c.ready_floor.ensures.rests.calm c.ready_floor.ensures.rests.contents
    (subst (λ (n : ℕ). StandsThroughout mid.contents.schema b c.args.seq (call.Expire n) (g.S.Store.view mid.store) (g.S.Store.view c.apply_floor.new.self.store)) c.in-Ok.ensures.floor (c.in-Err-apply_floor.ensures.any_moment b (c.ready_floor.ensures.has b h)))

pub returns-in-Err-clause-turn : goal.returns-in-Err-clause-turn
returns-in-Err-clause-turn g c b h = c.in-Err.ensures.memory b c.args.seq h

pub returns-in-Err-clause-any_moment : goal.returns-in-Err-clause-any_moment
returns-in-Err-clause-any_moment g c b h open_ =
    moments_still g.S.Store.view c.args.state.now c.ready_floor.new.self b c.args.seq (call.Expire c.args.v) (g.met.S.Store.only_now c.args.state.now.store) h open_ c.ready_floor.ensures.rests.calm
