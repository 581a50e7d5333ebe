use Rattle.std.proofs.Common.{◌≡◌, ◌∙◌, ap, sym, subst, arith}
use Rattle.tablet_state.specs.State.{HasOwn, Shown}
use Rattle.tablet_state.proofs.MovingFacts.{keeps_above, keeps_below, keeps_kept, keeps_there, places_live}
use Rattle.tablet_state.proofs.state.State.stays_live.Goals as goal

pub is_live-requires : goal.is_live-requires
is_live-requires g c =
    let floor : c.self.inside.floor ≡ c.args.self.now.contents.floor = ap (λ (x : Shown g.row.S.Denot). x.contents.floor) c.self.view_is in
    let low = c.if-v-self.false in
    let high = c.if-version-v.false in
    (omega arith, omega arith)

pub returns-then-v-self-clause-stays : goal.returns-then-v-self-clause-stays
returns-then-v-self-clause-stays g c =
    let floor : c.self.inside.floor ≡ c.args.self.now.contents.floor = ap (λ (x : Shown g.row.S.Denot). x.contents.floor) c.self.view_is in
    let low = c.if-v-self.true in
    keeps_below c.args.self.now.contents c.args.v c.args.place.now (omega arith)

pub returns-then-v-self-clause-live : goal.returns-then-v-self-clause-live
returns-then-v-self-clause-live g c =
    places_live g.S.Store.view c.args.self.now (subst (λ (x : Shown g.row.S.Denot). HasOwn x.contents x.segments) c.self.view_is c.self.invariant.own)

pub returns-then-version-v-clause-stays : goal.returns-then-version-v-clause-stays
returns-then-version-v-clause-stays g c =
    let high = c.if-version-v.true in
    let is = c.version.ensures in
    keeps_above c.args.self.now.contents c.args.v c.args.place.now (omega arith)

pub returns-then-version-v-clause-live : goal.returns-then-version-v-clause-live
returns-then-version-v-clause-live g c =
    places_live g.S.Store.view c.args.self.now (subst (λ (x : Shown g.row.S.Denot). HasOwn x.contents x.segments) c.self.view_is c.self.invariant.own)

pub returns-clause-stays : goal.returns-clause-stays
returns-clause-stays g c =
    let floor : c.self.inside.floor ≡ c.args.self.now.contents.floor = ap (λ (x : Shown g.row.S.Denot). x.contents.floor) c.self.view_is in
    let low = c.if-v-self.false in
    let high = c.if-version-v.false in
    keeps_kept c.args.self.now.contents c.args.v c.args.place.now c.is_live.result (omega arith, omega arith) c.is_live.ensures

pub returns-clause-there : goal.returns-clause-there
returns-clause-there g c is =
    let floor : c.self.inside.floor ≡ c.args.self.now.contents.floor = ap (λ (x : Shown g.row.S.Denot). x.contents.floor) c.self.view_is in
    let low = c.if-v-self.false in
    let high = c.if-version-v.false in
    let own : HasOwn c.args.self.now.contents c.args.self.now.segments = subst (λ (x : Shown g.row.S.Denot). HasOwn x.contents x.segments) c.self.view_is c.self.invariant.own in
    keeps_there c.args.self.now.contents c.args.self.now.segments own c.args.v c.args.place.now
    (sym (keeps_kept c.args.self.now.contents c.args.v c.args.place.now c.is_live.result (omega arith, omega arith) c.is_live.ensures) ∙ is)

pub returns-clause-live : goal.returns-clause-live
returns-clause-live g c =
    places_live g.S.Store.view c.args.self.now (subst (λ (x : Shown g.row.S.Denot). HasOwn x.contents x.segments) c.self.view_is c.self.invariant.own)
