-- A prepared load is ready for every map and every index, whatever numbers its files get.
use Rattle.std.proofs.Common.{◌≡◌, refl, ap, sym, ◌∙◌, ℕ, List, [], ◌∷◌, map, Option, Some, None, Bool as Truth, true, false, ◌||◌, cond}
use Rattle.std.specs.FinMap.{empty, get-empty, values}
use Rattle.std.specs.Ordering.{eq_by_cmp}
use Rattle.std.proofs.lemmas.Map.Views.{tells_apart}
use Rattle.pk_values.specs.Order.{key_cmp}
use Rattle.pk_values.specs.OrderFacts.{key_exact}
use Rattle.pk_values.specs.Schemas.{Layout}
use Rattle.pk_values.specs.declared.cells.Value.{Value}
use Rattle.pk_model.specs.Laws.{KeysStandFirst}
use Rattle.pk_model.specs.Lawful.{IsLawful}
use Rattle.pk_model.specs.Tables.{Rows, after, touches}
use Rattle.pk_model.specs.declared.calls.Load.{Load}
use Rattle.pk_model.proofs.LawfulLaws.{lawful-keeps-keys}
use Rattle.index_level0.specs.declared.place.Place.{Place}
use Rattle.rowsets.specs.Live.{HasKey, Index, IsIndex, Live, is_among, live}
use Rattle.rowsets.specs.Loads.{AreResultsOver, AreRows, IsWhole}
use Rattle.rowsets.specs.Merging.{all_live, all_rows, moved_to, numbered, written}
use Rattle.rowsets.specs.Indexing.{Cover, is_moved, place_after}
use Rattle.rowsets.specs.Steps.{IsReady}
use Rattle.rowsets.proofs.IndexFacts.{places_make_index}
use Rattle.rowsets.proofs.WrittenFacts.{numbered_are_written, whole_load_written, written_are_moved, written_stand}
use Rattle.core_publish.specs.Prepared.{fresh, moves_to, place_in}

clash : (b : Truth) → b ≡ true → b ≡ false → ⊥
clash b e f = cc (sym e ∙ f)

-- the last of moves that agree for each key
after-moves : (f : Index) (keys : List (List Value)) (k : List Value) (old : Option Place)
    → place_after (map (λ k. record { key = k; place = f k }) keys) k old ≡ cond (is_among keys k) (f k) old
after-moves f [] k old = refl
after-moves f (j ∷ keys) k old = after-moves f keys k (cond (eq_by_cmp key_cmp k j) (f j) old) ∙ by (eq_by_cmp key_cmp k j) (is_among keys k) refl
  where
    by : (b t : Truth) → eq_by_cmp key_cmp k j ≡ b → cond t (f k) (cond b (f j) old) ≡ cond (b || t) (f k) old
    by true true e = refl
    by true false e = ap f (sym (tells_apart key_exact k j e))
    by false true e = refl
    by false false e = refl

moved-keys : (f : Index) (keys : List (List Value)) (k : List Value) → is_moved (map (λ k. record { key = k; place = f k }) keys) k ≡ is_among keys k
moved-keys f [] k = refl
moved-keys f (j ∷ keys) k = ap (λ t. eq_by_cmp key_cmp k j || t) (moved-keys f keys k)

covers : (touched : List (List Value)) (index : Index) (keys : List Value → Truth) → ((k : List Value) → keys k ≡ is_among touched k) → Cover touched index keys
covers touched index keys same = record {
  only = λ k e. sym (same k) ∙ e;
  all = λ k e f. absurd (clash (is_among touched k) e (sym (same k) ∙ f));
}

module _ (s : Layout) (load : Load) (first : ℕ) (files : List (List (List Value))) (keys : List (List Value))
    (lawful : IsLawful s load) (whole : IsWhole s load) (rows : all_rows files ≡ values (after s load empty))
    (touched : (k : List Value) → is_among keys k ≡ is_among (touches load.ops) k) where
  abbrev new_rows : Live
  new_rows = live (fresh first files) (map all_live (numbered first files))

  wrote : written (fresh first files) (numbered first files) ≡ values (after s load empty)
  wrote = numbered_are_written first files (λ n. []) ∙ rows

  keys-first : KeysStandFirst s (after s load empty)
  keys-first = lawful-keeps-keys s load empty lawful (λ k row is. absurd (none k row (sym (get-empty key_cmp k) ∙ is)))
    where
      none : (k row : List Value) → None ≡ Some row → ⊥
      none k row e = cc

  index-of-new : IsIndex s new_rows (place_in s first files)
  index-of-new =
      places_make_index s new_rows (after s load empty) (moved_to s (fresh first files) (numbered first files))
      (written_stand s (fresh first files) (numbered first files) (after s load empty) keys-first wrote)
      (written_are_moved s (fresh first files) (numbered first files)).0

  -- it is ready for every map of rows that fit
  pub ready-for : (m : Rows) (index : Index) → AreRows s m → IsReady s load m index new_rows keys (moves_to s first files keys)
  ready-for m index are =
      let results = whole_load_written s load (fresh first files) (numbered first files) lawful whole wrote m are in
      record {
        results = results;
        found = covers (touches load.ops) index (is_among keys) touched;
        cover = covers (touches load.ops) index (is_moved (moves_to s first files keys)) (λ k. moved-keys (place_in s first files) keys k ∙ touched k);
        places = λ k p. (to k p (is_among keys k) refl, from k p results);
      }
    where
      to : (k : List Value) (p : Place) (t : Truth) → is_among keys k ≡ t → place_after (moves_to s first files keys) k None ≡ Some p → HasKey s new_rows p k
      to k p true e is = (index-of-new k p).0 (sym (after-moves (place_in s first files) keys k None ∙ ap (λ b. cond b (place_in s first files k) None) e) ∙ is)
      to k p false e is = absurd (none p (sym (after-moves (place_in s first files) keys k None ∙ ap (λ b. cond b (place_in s first files k) None) e) ∙ is))
        where
          none : (p : Place) → None ≡ Some p → ⊥
          none p e = cc

      from : (k : List Value) (p : Place) → AreResultsOver s load m new_rows → HasKey s new_rows p k → place_after (moves_to s first files keys) k None ≡ Some p
      from k p results h =
          after-moves (place_in s first files) keys k None
          ∙ ap (λ b. cond b (place_in s first files k) None) (touched k ∙ results.named p k h)
          ∙ (index-of-new k p).1 h
