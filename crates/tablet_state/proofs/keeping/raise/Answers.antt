use Rattle.std.proofs.Common.{◌++◌, ◌∷◌, [], ◌∙◌, sym}
use Rattle.dev_traits.specs.View.{View}
use Rattle.dev_traits.proofs.Moments.{calm_behind, calm_leaves}
use Rattle.tablet_state.specs.Floors.{Raises}
use Rattle.tablet_state.proofs.Chain.{ready_still, settled_still}
use Rattle.tablet_state.proofs.KeepFacts.{never_falls}
use Rattle.tablet_state.proofs.keeping.raise.Goals as goal

pub keep_segments-requires-clause-ordered : goal.keep_segments-requires-clause-ordered
keep_segments-requires-clause-ordered g c = never_falls c.args.keep.now c.requires.rising

pub returns-clause-any_moment : goal.returns-clause-any_moment
returns-clause-any_moment g c = λ bodies settled.
    calm_behind (Raises c.args.log.now.area bodies c.args.body.now c.args.keep.now) (g.S.Store.view c.args.store.now) (g.S.Store.view c.commit_floor.new.store) (g.S.Store.view c.keep_segments.new.store)
    (c.commit_floor.ensures.any_moment bodies settled) c.keep_segments.ensures.calm

pub returns-clause-settled : goal.returns-clause-settled
returns-clause-settled g c = λ bodies settled.
    let v : View = g.S.Store.view c.commit_floor.new.store in
    let w : View = g.S.Store.view c.keep_segments.new.store in
    settled_still c.commit_floor.new.log.area (bodies ++ c.args.body.now ∷ []) c.commit_floor.new.log.end v w c.keep_segments.ensures.calm.honest (calm_leaves v w c.keep_segments.ensures.calm)
    (c.in_ok-commit_floor.ensures.settled bodies settled)

pub returns-clause-forgot : goal.returns-clause-forgot
returns-clause-forgot g c = λ before reads after now. c.in_ok-commit_floor.ensures.forgot before reads after (sym c.keep_segments.ensures.calm.seen ∙ now)

pub returns-clause-ready : goal.returns-clause-ready
returns-clause-ready g c =
    let v : View = g.S.Store.view c.commit_floor.new.store in
    let w : View = g.S.Store.view c.keep_segments.new.store in
    ready_still c.commit_floor.new.log.area c.commit_floor.new.log.end v w c.keep_segments.ensures.calm.honest (calm_leaves v w c.keep_segments.ensures.calm) c.in_ok-commit_floor.ensures.ready
