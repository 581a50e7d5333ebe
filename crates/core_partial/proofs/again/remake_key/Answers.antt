use Rattle.std.proofs.Common.{◌≡◌, ◌∙◌, ◌++◌, ◌∷◌, [], ap, sym, true, false, Option, List, length}
use Rattle.std.specs.Prelude.{option_to_list}
use Rattle.std.specs.FinMap.{get}
use Rattle.pk_values.specs.Schemas.{Layout}
use Rattle.pk_values.specs.declared.cells.Value.{Value}
use Rattle.tablet_state.specs.Contents.{Contents}
use Rattle.tablet_state.specs.Moving.{keeps_live}
use Rattle.partial_loads.specs.Moves.{has_moved}
use Rattle.core_partial.specs.Again.{row_made}
use Rattle.core_partial.specs.Moving.{is_moved_key}
use Rattle.core_partial.specs.Results.{place_for}
use Rattle.core_partial.specs.declared.again.Remade.{Remade}
use Rattle.core_partial.specs.declared.keys.PreparedKey.{PreparedKey}
use Rattle.core_partial.proofs.KeyFacts.{remakes-moved, remakes-none, remakes-over, unmoved-over}
use Rattle.core_partial.proofs.again.remake_key.Goals as goal

pub returns-then-not-is_moved-clause-more : goal.returns-then-not-is_moved-clause-more
returns-then-not-is_moved-clause-more g c =
    let st = c.args.state.now in
    let held : Contents = st.contents in
    let k : PreparedKey = c.args.key.now in
    let place : c.place_of-now.result ≡ get held.codes k.code = c.place_of-now.ensures.stored in
    let unmoved : is_moved_key held c.args.version k ≡ false =
    ap (has_moved (keeps_live held c.args.version) k.was) (sym place) ∙ sym c.is_moved.ensures ∙ c.if-not-is_moved.true in
    remakes-none held st.segments c.args.given.now c.args.version k c.args.remade.now unmoved

pub returns-then-not-is_moved-clause-over : goal.returns-then-not-is_moved-clause-over
returns-then-not-is_moved-clause-over g c b h open_ =
    let st = c.args.state.now in
    let held : Contents = st.contents in
    let k : PreparedKey = c.args.key.now in
    let place : c.place_of-now.result ≡ get held.codes k.code = c.place_of-now.ensures.stored in
    let unmoved : is_moved_key held c.args.version k ≡ false =
    ap (has_moved (keeps_live held c.args.version) k.was) (sym place) ∙ sym c.is_moved.ensures ∙ c.if-not-is_moved.true in
    unmoved-over c.args.schema.now c.args.given.now held c.args.version k b.current c.args.remade.now unmoved

pub returns-clause-more : goal.returns-clause-more
returns-clause-more g c =
    let st = c.args.state.now in
    let held : Contents = st.contents in
    let k : PreparedKey = c.args.key.now in
    let given = c.args.given.now in
    let place : c.place_of-now.result ≡ get held.codes k.code = c.place_of-now.ensures.stored in
    let moved : is_moved_key held c.args.version k ≡ true =
    ap (has_moved (keeps_live held c.args.version) k.was) (sym place) ∙ sym c.is_moved.ensures ∙ c.if-not-is_moved.false in
    let old : Option (List Value) = c.in_ok-old.old in
    let before : Remade = c.args.remade.now in
    let after : Remade = record { results = c.add.new.self; stale = c.add_place.new.places } in
    let row : c.in_ok-row.row ≡ row_made held.schema given k old = c.in_ok-row.ensures ∙ ap (λ (s : Layout). row_made s given k old) c.requires.schema in
    remakes-moved held st.segments given c.args.version k before after moved (record {
      row = old;
      is = c.in_ok-old.ensures.now;
      rows = c.in_ok-add.ensures.rows ∙ ap (λ (r : Option (List Value)). before.results.rows.items ++ option_to_list r) row;
      moves = c.in_ok-add.ensures.moves ∙ (λ i. before.results.moves.items ++ (c.copy.ensures i, place_for (length before.results.rows.items) (row i)) ∷ []);
      stale = c.in_ok-add_place.ensures;
    })

pub returns-clause-over : goal.returns-clause-over
returns-clause-over g c b h open_ =
    let st = c.args.state.now in
    let held : Contents = st.contents in
    let k : PreparedKey = c.args.key.now in
    let given = c.args.given.now in
    let place : c.place_of-now.result ≡ get held.codes k.code = c.place_of-now.ensures.stored in
    let moved : is_moved_key held c.args.version k ≡ true =
    ap (has_moved (keeps_live held c.args.version) k.was) (sym place) ∙ sym c.is_moved.ensures ∙ c.if-not-is_moved.false in
    let old : Option (List Value) = c.in_ok-old.old in
    let before : Remade = c.args.remade.now in
    let after : Remade = record { results = c.add.new.self; stale = c.add_place.new.places } in
    remakes-over c.args.schema.now given held c.args.version k b.current old before after moved (c.in_ok-old.ensures.row b h open_)
    (c.in_ok-add.ensures.rows ∙ ap (λ (r : Option (List Value)). before.results.rows.items ++ option_to_list r) c.in_ok-row.ensures)
