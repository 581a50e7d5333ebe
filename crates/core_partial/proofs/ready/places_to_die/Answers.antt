use Rattle.std.proofs.Common.{◌≡◌, ◌+◌, ◌++◌, ◌∷◌, [], ◌∙◌, List, sym, ap, map, take, Option}
use Rattle.std.specs.Prelude.{option_to_list}
use Rattle.std.specs.FinMap.{get}
use Rattle.std.proofs.lemmas.List.{append-nil}
use Rattle.index_level0.specs.declared.place.Place.{Place}
use Rattle.core_publish.specs.Publishing.{stored_places}
use Rattle.core_partial.specs.Prepared.{made_move}
use Rattle.core_partial.specs.declared.keys.PreparedKey.{PreparedKey}
use Rattle.core_partial.proofs.LoopFacts.{stored-step}
use Rattle.core_partial.proofs.ready.places_to_die.Goals.{in-Some+in_ok-push, in_default}
use Rattle.core_partial.proofs.ready.places_to_die.Goals as goal

pub loop-key-preserved : goal.loop-key-preserved
loop-key-preserved g c =
    let codes = c.args.state.now.contents.codes in
    let ks : List PreparedKey = c.args.keys.now in
    let i = c.loop-key.key-index in
    let k : PreparedKey = c.key-item.result in
    let before : List Place = stored_places codes (map made_move (take i ks)) in
    let next : stored_places codes (map made_move (take (i + 1) ks)) ≡ before ++ option_to_list (get codes k.code) =
    stored-step codes ks i k c.loop-key-test.true c.key-item.is in
    let found : c.place_of.result ≡ get codes k.code = c.place_of.ensures.stored in
    elim c.match-place_of.branch [
      | in-Some+in_ok-push w ↦
          let one : stored_places codes (map made_move (take (i + 1) ks)) ≡ before ++ w.in-Some.place ∷ [] = next ∙ ap (λ (o : Option Place). before ++ option_to_list o) (sym found ∙ w.in-Some.is) in
          cc (one, w.in_ok-push.ensures.items, c.loop-key.invariant)
      | in_default w ↦
          let none : stored_places codes (map made_move (take (i + 1) ks)) ≡ before = next ∙ ap (λ (o : Option Place). before ++ option_to_list o) (sym found ∙ w.in_default.is) ∙ append-nil before in
          cc (none, c.loop-key.invariant)
    ]
