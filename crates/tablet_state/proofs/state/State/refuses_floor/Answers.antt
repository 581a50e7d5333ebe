use Rattle.std.proofs.Common.{◌≡◌, ◌<◌, ◌≤◌, ◌∙◌, ℕ, None, Some, sym, ap, subst}
use Rattle.pk_model.specs.declared.calls.Call.TheVariants as call
use Rattle.pk_model.specs.declared.calls.Reply.TheVariants as reply
use Rattle.tablet_state.specs.Contents.{current_number, worn_of}
use Rattle.tablet_state.specs.State.{Shown, Steps}
use Rattle.tablet_state.proofs.FloorReplies.{floor_worn_refuses, low_refuses, not_yet_refuses, worn_number}
use Rattle.tablet_state.proofs.state.State.refuses_floor.Goals as goal

pub returns-then-current-v-clause-step : goal.returns-then-current-v-clause-step
returns-then-current-v-clause-step g c b seq h =
    let st = c.args.self.now in
    let open_ : st.closed ≡ None = sym (ap (λ (x : Shown g.row.S.Denot). x.closed) c.self.view_is) ∙ c.in-None.is in
    subst (λ (n : ℕ). Steps g.S.Store.view st b seq (call.Expire c.args.v) (reply.NotYet n)) (sym c.version-current.ensures)
    (not_yet_refuses g.S.Store.view st b seq c.args.v h open_ (subst (λ (n : ℕ). n < c.args.v) c.version-current.ensures c.if-current-v.true))

pub returns-then-v-self-clause-step : goal.returns-then-v-self-clause-step
returns-then-v-self-clause-step g c b seq h =
    let st = c.args.self.now in
    let open_ : st.closed ≡ None = sym (ap (λ (x : Shown g.row.S.Denot). x.closed) c.self.view_is) ∙ c.in-None.is in
    let floor : c.self.inside.floor ≡ st.contents.floor = ap (λ (x : Shown g.row.S.Denot). x.contents.floor) c.self.view_is in
    subst (λ (n : ℕ). Steps g.S.Store.view st b seq (call.Expire c.args.v) (reply.Floor n)) (sym floor)
    (low_refuses g.S.Store.view st b seq c.args.v h open_ (subst (λ (n : ℕ). c.args.v ≤ n) floor c.if-v-self.true))

pub returns-in-Some-worn-clause-step : goal.returns-in-Some-worn-clause-step
returns-in-Some-worn-clause-step g c b seq h =
    let st = c.args.self.now in
    let open_ : st.closed ≡ None = sym (ap (λ (x : Shown g.row.S.Denot). x.closed) c.self.view_is) ∙ c.in-None.is in
    let worn : worn_of st.contents ≡ Some c.in-Some-worn.number = sym c.worn.ensures ∙ c.in-Some-worn.is in
    let le : c.args.v ≤ current_number st.contents = subst (λ (n : ℕ). c.args.v ≤ n) c.version-current.ensures c.if-current-v.false in
    floor_worn_refuses g.S.Store.view st b seq c.args.v h open_ c.in-Some-worn.number le (worn_number st.contents c.in-Some-worn.number worn)
