-- A load whose rows were made before the turn, and those of some keys again in it, is ready to be published.
use Rattle.std.proofs.Common.{◌≡◌, ◌↔◌, ◌⊎◌, inl, inr, refl, ap, sym, subst, ◌∙◌, ℕ, ◌+◌, List, [], ◌∷◌, ◌++◌, length, map, Option, Some, None, Bool as Truth, true, false, cond, ◌||◌}
use Rattle.std.specs.FinMap.{get}
use Rattle.std.specs.Ordering.{eq_by_cmp}
use Rattle.std.proofs.lemmas.Map.Views.{tells_apart}
use Rattle.pk_values.specs.Order.{key_cmp}
use Rattle.pk_values.specs.OrderFacts.{key_exact}
use Rattle.pk_values.specs.Schemas.{Layout, key_of}
use Rattle.pk_values.specs.declared.cells.Value.{Value}
use Rattle.pk_model.specs.declared.calls.Load.{Load}
use Rattle.pk_model.specs.Laws.{KeysStandFirst, result_for}
use Rattle.pk_model.specs.Lawful.{IsLawful}
use Rattle.pk_model.specs.Tables.{Rows, after, touches}
use Rattle.pk_model.proofs.LoadLaws.{one_result_per_key}
use Rattle.index_level0.specs.declared.place.Place.{Place}
use Rattle.rowsets.specs.Live.{Files, HasKey, Index, IsIndex, Part, is_among, live, names}
use Rattle.rowsets.specs.Marks.{marked, stands_in}
use Rattle.rowsets.specs.Loads.{ComeWithRow}
use Rattle.rowsets.specs.Indexing.{Cover, Move, is_moved, merged_place, place_after}
use Rattle.rowsets.specs.Merging.{IsListed, all_live, all_rows, numbered, written}
use Rattle.rowsets.specs.Steps.{IsReady}
use Rattle.rowsets.proofs.LiveFacts.{live-base, live-marked, live-named, names-append, unnamed}
use Rattle.rowsets.proofs.WrittenFacts.{written_are_live}
use Rattle.partial_loads.specs.declared.folds.Folded.{Folded}
use Rattle.partial_loads.specs.Folded.{folded_keys}
use Rattle.partial_loads.specs.Making.{made_rows}
use Rattle.partial_loads.specs.Moves.{NoneTwice}
use Rattle.partial_loads.specs.Publications.{AreMadeTwice, HaveRows, IsReadyLoad, TwiceMadeIsReady, fresh, moves_into, moves_of_both, places_in, superseded}
use Rattle.partial_loads.specs.Settling.{AreAgain, AreSettled}
use Rattle.partial_loads.proofs.MakeFacts.{folded_are_results, folded_have_changes, made_are_results, made_once, rising_once, written_is_indexed}
use Rattle.partial_loads.proofs.MoveFacts.{clash, places_are_old}
use Rattle.partial_loads.proofs.NumberedFacts.{back-moved, back-written, first-row, front-moved, front-written, groups-apart, parts-append}
use Rattle.partial_loads.proofs.SettleFacts.{are_results, found_are_in, found_at, has_row, outside, places}

-- moves whose places follow from their keys
pub after-keys : (f : Index) (keys : List (List Value)) (k : List Value) (old : Option Place)
    → place_after (map (λ k. record { key = k; place = f k }) keys) k old ≡ cond (is_among keys k) (f k) old
after-keys f [] k old = refl
after-keys f (j ∷ keys) k old = after-keys f keys k (cond (eq_by_cmp key_cmp k j) (f j) old) ∙ by (eq_by_cmp key_cmp k j) (is_among keys k) refl
  where
    by : (b t : Truth) → eq_by_cmp key_cmp k j ≡ b → cond t (f k) (cond b (f j) old) ≡ cond (b || t) (f k) old
    by true true e = refl
    by true false e = ap f (sym (tells_apart key_exact k j e))
    by false true e = refl
    by false false e = refl

after-both : (xs ys : List Move) (k : List Value) (old : Option Place) → place_after (xs ++ ys) k old ≡ place_after ys k (place_after xs k old)
after-both [] ys k old = refl
after-both (x ∷ xs) ys k old = after-both xs ys k (cond (eq_by_cmp key_cmp k x.key) x.place old)

are-moved : (f : Index) (keys : List (List Value)) (ys : List Move) (k : List Value)
    → is_moved (map (λ k. record { key = k; place = f k }) keys ++ ys) k ≡ (is_among keys k || is_moved ys k)
are-moved f [] ys k = refl
are-moved f (j ∷ keys) ys k = ap (λ t. eq_by_cmp key_cmp k j || t) (are-moved f keys ys k) ∙ by (eq_by_cmp key_cmp k j)
  where
    by : (b : Truth) → (b || (is_among keys k || is_moved ys k)) ≡ ((b || is_among keys k) || is_moved ys k)
    by true = refl
    by false = refl

keys-moved : (f : Index) (keys : List (List Value)) (k : List Value) → is_moved (map (λ k. record { key = k; place = f k }) keys) k ≡ is_among keys k
keys-moved f [] k = refl
keys-moved f (j ∷ keys) k = ap (λ t. eq_by_cmp key_cmp k j || t) (keys-moved f keys k)

module _ (s : Layout) (load : Load) (was now : Rows) (index : Index) (folded again : List Folded) (made remade : List (List (List Value))) (first : ℕ)
    (lawful : IsLawful s load) (was_first : KeysStandFirst s was) (now_first : KeysStandFirst s now) (twice : AreMadeTwice s load was now folded again made remade) where
  abbrev next : ℕ
  next = first + length made

  abbrev rows : Files
  rows = fresh first (made ++ remade)

  abbrev old_parts : List Part
  old_parts = map all_live (numbered first made)

  abbrev new_parts : List Part
  new_parts = map all_live (numbered next remade)

  abbrev again_keys : List (List Value)
  again_keys = folded_keys again

  abbrev stale : List Place
  stale = superseded s first made again

  written_first : written rows (numbered first made) ≡ made_rows s load.given was folded
  written_first = front-written first made remade ∙ twice.first

  written_second : written rows (numbered next remade) ≡ made_rows s load.given now again
  written_second = back-written first made remade ∙ twice.second

  made_at : IsIndex s (live rows old_parts) (places_in s first made)
  made_at = subst (λ moved. IsIndex s (live rows old_parts) (merged_place moved)) (front-moved first made remade s)
      (written_is_indexed s rows (numbered first made)
      (subst (λ xs. NoneTwice (map (key_of s) xs)) (sym written_first) (made_once s load was folded lawful was_first (folded_have_changes s load folded twice.folds) (rising_once _ twice.folds.rise))))

  remade_at : IsIndex s (live rows new_parts) (places_in s next remade)
  remade_at = subst (λ moved. IsIndex s (live rows new_parts) (merged_place moved)) (back-moved first made remade s)
      (written_is_indexed s rows (numbered next remade)
      (subst (λ xs. NoneTwice (map (key_of s) xs)) (sym written_second) (made_once s load now again lawful now_first twice.changes twice.once)))

  apart : (n : ℕ) → names old_parts n ≡ true → names new_parts n ≡ false
  apart = groups-apart first made remade

  settled : AreSettled s load was now again_keys (live rows old_parts) (live rows new_parts) stale
  settled = record {
    before = folded_are_results s load was rows (numbered first made) folded lawful was_first twice.folds written_first;
    since = made_are_results s load now rows (numbered next remade) again lawful now_first twice.changes written_second;
    superseded = places_are_old s (live rows old_parts) (places_in s first made) again_keys made_at;
    stay = λ p k h.
        outside old_parts stale p (found_are_in s rows old_parts (places_in s first made) again_keys made_at)
        (unnamed old_parts new_parts apart p.segment (live-named rows new_parts p h.0 h.1));
  }

  touched-is : (k : List Value) → is_among (folded_keys folded) k ≡ is_among (touches load.ops) k
  touched-is = twice.folds.named

  are : AreAgain s load was now again_keys
  are = record {
    named = λ k e. sym (touched-is k) ∙ twice.among k e;
    same = λ k touched other.
        one_result_per_key s load now k
        ∙ ap (result_for s load.given load.ops k) (twice.same k (touched-is k ∙ touched) other)
        ∙ sym (one_result_per_key s load was k);
  }

  abbrev moves : List Move
  moves = moves_of_both s first made remade folded again

  or-among : (a b : Truth) → (b ≡ true → a ≡ true) → (a || b) ≡ a
  or-among true b h = refl
  or-among false true h = sym (h refl)
  or-among false false h = refl

  moved-are : (k : List Value) → is_moved moves k ≡ is_among (folded_keys folded) k
  moved-are k =
      are-moved (places_in s first made) (folded_keys folded) (moves_into s next remade again_keys) k
      ∙ ap (λ t. is_among (folded_keys folded) k || t) (keys-moved (places_in s next remade) again_keys k)
      ∙ or-among (is_among (folded_keys folded) k) (is_among again_keys k) (twice.among k)

  place-is : (k : List Value) → place_after moves k None
      ≡ cond (is_among again_keys k) (places_in s next remade k) (cond (is_among (folded_keys folded) k) (places_in s first made k) None)
  place-is k =
      after-both (moves_into s first made (folded_keys folded)) (moves_into s next remade again_keys) k None
      ∙ after-keys (places_in s next remade) again_keys k (place_after (moves_into s first made (folded_keys folded)) k None)
      ∙ ap (cond (is_among again_keys k) (places_in s next remade k)) (after-keys (places_in s first made) (folded_keys folded) k None)

  covers : (keys : List Value → Truth) → ((k : List Value) → keys k ≡ is_among (folded_keys folded) k) → Cover (touches load.ops) index keys
  covers keys same = record {
    only = λ k e. sym (touched-is k) ∙ sym (same k) ∙ e;
    all = λ k e f. absurd (clash (keys k) (same k ∙ touched-is k ∙ e) f);
  }

  none_some : (p : Place) → None ≡ Some p → ⊥
  none_some p e = cc

  leads : (k : List Value) (p : Place) → (place_after moves k None ≡ Some p) ↔ HasKey s (live rows (marked stale (old_parts ++ new_parts))) p k
  leads k p = go (is_among again_keys k) (is_among (folded_keys folded) k) refl refl
    where
      there : Index
      there k = cond (is_among (touches load.ops) k) (cond (is_among again_keys k) (places_in s next remade k) (places_in s first made k)) (index k)

      after : (a t : Truth) → is_among again_keys k ≡ a → is_among (folded_keys folded) k ≡ t
          → place_after moves k None ≡ cond a (places_in s next remade k) (cond t (places_in s first made k) None)
      after a t e f = place-is k ∙ ap (λ b. cond b (places_in s next remade k) (cond (is_among (folded_keys folded) k) (places_in s first made k) None)) e
          ∙ ap (λ b. cond a (places_in s next remade k) (cond b (places_in s first made k) None)) f

      at : (a : Truth) → is_among again_keys k ≡ a → is_among (folded_keys folded) k ≡ true → there k ≡ cond a (places_in s next remade k) (places_in s first made k)
      at a e f =
          ap (λ b. cond b (cond (is_among again_keys k) (places_in s next remade k) (places_in s first made k)) (index k)) (sym (touched-is k) ∙ f)
          ∙ ap (λ b. cond b (places_in s next remade k) (places_in s first made k)) e

      go : (a t : Truth) → is_among again_keys k ≡ a → is_among (folded_keys folded) k ≡ t
          → (place_after moves k None ≡ Some p) ↔ HasKey s (live rows (marked stale (old_parts ++ new_parts))) p k
      go true true e f =
          let settled_places = places s load rows was now again_keys old_parts new_parts stale settled are apart index (places_in s first made) (places_in s next remade) made_at remade_at in (
            λ is. (settled_places.moved k p (sym (touched-is k) ∙ f)).0 (at true e f ∙ sym (after true true e f) ∙ is),
            λ has. after true true e f ∙ sym (at true e f) ∙ (settled_places.moved k p (sym (touched-is k) ∙ f)).1 has,
          )
      go false true e f =
          let settled_places = places s load rows was now again_keys old_parts new_parts stale settled are apart index (places_in s first made) (places_in s next remade) made_at remade_at in (
            λ is. (settled_places.moved k p (sym (touched-is k) ∙ f)).0 (at false e f ∙ sym (after false true e f) ∙ is),
            λ has. after false true e f ∙ sym (at false e f) ∙ (settled_places.moved k p (sym (touched-is k) ∙ f)).1 has,
          )
      go true false e f = absurd (clash (is_among (folded_keys folded) k) (twice.among k e) f)
      go false false e f = (
        λ is. absurd (none_some p (sym (after false false e f) ∙ is)),
        λ has. absurd (clash (is_among (folded_keys folded) k) (touched-is k ∙ (are_results s load rows was now again_keys old_parts new_parts stale settled are apart).named p k has) f),
      )

  is_ready : IsReady s load now index (live rows (marked stale (old_parts ++ new_parts))) (folded_keys folded) moves
  is_ready = record {
    results = are_results s load rows was now again_keys old_parts new_parts stale settled are apart;
    found = covers (is_among (folded_keys folded)) (λ k. refl);
    cover = covers (is_moved moves) moved-are;
    places = leads;
  }

  or-left : (a b : Truth) → a ≡ true → (a || b) ≡ true
  or-left true b h = refl
  or-left false b h = cc

  in_new : (p : Place) → stands_in stale p ≡ true → names (old_parts ++ new_parts) p.segment ≡ true
  in_new p h = names-append old_parts new_parts p.segment ∙ or-left (names old_parts p.segment) (names new_parts p.segment) (found_are_in s rows old_parts (places_in s first made) again_keys made_at p h)

  of_row : (p : Place) → stands_in stale p ≡ true → (row : List Value) × (live rows (old_parts ++ new_parts) p ≡ Some row)
  of_row p h =
      let found = found_at (places_in s first made) again_keys p h in
      let has = (made_at found.0 p).0 found.1 in
      (has.0, live-base rows old_parts new_parts p has.0 has.1)

  come-first : ComeWithRow rows [] old_parts
  come-first = go (first-row made twice.made_some)
    where
      go : (made ≡ []) ⊎ ((row : List Value) × IsListed (all_rows made) row) → ComeWithRow rows [] old_parts
      go (inl none) = inl (ap (λ files. map all_live (numbered first files)) none)
      go (inr h) =
          let has = (written_are_live s rows (numbered first made) (key_of s h.0) h.0).1 (subst (λ xs. IsListed xs h.0) (sym (front-written first made remade)) h.1, refl) in
          inr (has.0, h.0, live-marked rows [] old_parts has.0 ∙ has.1)

  come-second : ComeWithRow rows [] new_parts
  come-second = go (first-row remade twice.remade_some)
    where
      go : (remade ≡ []) ⊎ ((row : List Value) × IsListed (all_rows remade) row) → ComeWithRow rows [] new_parts
      go (inl none) = inl (ap (λ files. map all_live (numbered next files)) none)
      go (inr h) =
          let has = (written_are_live s rows (numbered next remade) (key_of s h.0) h.0).1 (subst (λ xs. IsListed xs h.0) (sym (back-written first made remade)) h.1, refl) in
          inr (has.0, h.0, live-marked rows [] new_parts has.0 ∙ has.1)

  comes : ComeWithRow rows stale (old_parts ++ new_parts)
  comes = has_row s load rows was now again_keys old_parts new_parts stale settled are apart come-first come-second

  joined : old_parts ++ new_parts ≡ map all_live (numbered first (made ++ remade))
  joined = sym (parts-append first made remade)

  pub ready_load : IsReadyLoad s load now index first (made ++ remade) (folded_keys folded) stale moves
  ready_load = record {
    ready = subst (λ parts. IsReady s load now index (live rows (marked stale parts)) (folded_keys folded) moves) joined is_ready;
    of_new = subst (λ parts. (p : Place) → stands_in stale p ≡ true → names parts p.segment ≡ true) joined in_new;
    of_rows = subst (λ parts. (p : Place) → stands_in stale p ≡ true → (row : List Value) × (live rows parts p ≡ Some row)) joined of_row;
    come = subst (λ parts. ComeWithRow rows stale parts) joined comes;
  }

pub twice_made_is_ready : TwiceMadeIsReady
twice_made_is_ready s load was now index folded again made remade first lawful was_first now_first twice =
    ready_load s load was now index folded again made remade first lawful was_first now_first twice
