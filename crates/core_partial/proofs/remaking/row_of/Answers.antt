use Rattle.std.proofs.Common.{◌≡◌, ◌∙◌, sym, subst, None}
use Rattle.std.proofs.lemmas.Result.{err_from_is_err_and}
use Rattle.pk_model.specs.declared.books.Book.{Book}
use Rattle.tablet_state.specs.State.{Has}
use Rattle.core_partial.proofs.ReadFacts.{on_damage}
use Rattle.core_partial.proofs.RowFacts.{astray-damage, index-at, not-other, not-stray}
use Rattle.core_partial.proofs.remaking.row_of.Goals as goal

pub returns-then-not-stays_live-clause-intact : goal.returns-then-not-stays_live-clause-intact
returns-then-not-stays_live-clause-intact g c =
    let st = c.args.state.now in
    let view = g.S.Store.view in
    let at = index-at c.args.schema.now st.contents c.args.key.now _ c.requires.schema c.requires.coded c.requires.stored in
    astray-damage c.astray.result (λ _. (b : Book) → Has view st b → st.closed ≡ None → ⊥) c.astray.ensures
    (not-stray view st c.args.key.now.key c.args.place.now c.version.result c.stays_live.result c.stays_live.ensures.live c.version.ensures c.stays_live.ensures.stays c.if-not-stays_live.true at)

pub returns-in_err-row-clause-intact : goal.returns-in_err-row-clause-intact
returns-in_err-row-clause-intact g c =
    let st = c.args.state.now in
    let view = g.S.Store.view in
    let at = index-at c.args.schema.now st.contents c.args.key.now _ c.requires.schema c.requires.coded c.requires.stored in
    let p = err_from_is_err_and c.from_residual.result c.from_residual.ensures.1 in
    rw (p.1, p.2)
    (on_damage c.in_err-row.field-0.0 _ (λ _. (b : Book) → Has view st b → st.closed ≡ None → ⊥) (λ d none b h open_. none b c.args.key.now.key h open_ at) c.in_err-row.ensures.intact)

pub returns-then-not-has_key-clause-intact : goal.returns-then-not-has_key-clause-intact
returns-then-not-has_key-clause-intact g c =
    let st = c.args.state.now in
    let view = g.S.Store.view in
    let at = index-at c.args.schema.now st.contents c.args.key.now _ c.requires.schema c.requires.coded c.requires.stored in
    astray-damage c.astray-then-not-has_key.result (λ _. (b : Book) → Has view st b → st.closed ≡ None → ⊥) c.astray-then-not-has_key.ensures
    (λ b h open_. not-other view st c.args.schema.now c.args.key.now.key c.in_ok-row.row c.has_key.result c.requires.schema c.has_key.ensures c.if-not-has_key.true b h open_
    (c.in_ok-row.ensures.row b c.args.key.now.key h open_ at))
