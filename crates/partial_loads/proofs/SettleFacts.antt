-- Rows made before the turn, and rows of moved keys made again in it, are those of the load over the rows of now.
use Rattle.std.proofs.Common.{◌≡◌, ◌↔◌, ◌⊎◌, inl, inr, refl, ap, sym, ◌∙◌, ◌+◌, List, [], ◌∷◌, ◌++◌, map, Option, Some, None, is_some, option_to_list, Bool as Truth, true, false, cond, ◌&&◌, ◌||◌}
use Rattle.std.specs.List.{list_any}
use Rattle.std.proofs.lemmas.List.Folds.{list_any-append}
use Rattle.std.specs.FinMap.{get}
use Rattle.std.specs.Ordering.{eq_by_cmp}
use Rattle.std.proofs.lemmas.Map.Views.{tells_apart}
use Rattle.pk_values.specs.Order.{key_cmp}
use Rattle.pk_values.specs.OrderFacts.{key_exact}
use Rattle.pk_values.specs.Schemas.{Layout, key_of}
use Rattle.pk_values.specs.declared.cells.Value.{Value}
use Rattle.pk_model.specs.declared.calls.Load.{Load}
use Rattle.pk_model.specs.Tables.{Rows, after, touches, writes}
use Rattle.pk_model.proofs.LineLaws.{write-leaves-row}
use Rattle.index_level0.specs.declared.place.Place.{Place}
use Rattle.rowsets.specs.Live.{Part, parts_of, Files, Live, live, names, Apart, is_among, HasKey, HasRow, Index, IsIndex}
use Rattle.rowsets.specs.Marks.{marked, same_place, stands_in}
use Rattle.rowsets.specs.Changes.{IsIndexAfter}
use Rattle.rowsets.specs.Loads.{AreResultsOver, ComeWithRow}
use Rattle.rowsets.proofs.LiveFacts.{live-marked, live-named, live-before, live-base, live-top, unnamed, parted}
use Rattle.rowsets.proofs.LoadFacts.{parts_make_load, no_write_no_row}
use Rattle.rowsets.proofs.PublishFacts.{publishing_stands}
use Rattle.rowsets.proofs.BookFacts.{load_is_held}
use Rattle.rowsets.specs.Indexing.{is_moved, place_after, places_of}
use Rattle.rowsets.specs.Books.{held_at}
use Rattle.pk_model.specs.Books.{version}
use Rattle.partial_loads.specs.Moves.{Located, stays_live, has_moved, moved, keys_of, place_in}
use Rattle.partial_loads.specs.Settling.{MadeByKey, AreSettled, AreAgain, MovedAreAgain, AreIn, DeadOfBoth, SettledAreResults, settled_index, settled_moves, SettledMovesMove, SettledIsReady, SettledMakesLoad, SettledHasRow, LocatedLoadStands, LocatedLoadIsHeld, FoundAreIn, FoundAreDead, StaleIsWrong}
use Rattle.partial_loads.proofs.FoldFacts.{load_is_changes}
use Rattle.partial_loads.proofs.MoveFacts.{clash, not-gained, moved_are, unmoved_keeps_result, held_is_meanwhile, places_are_old, same_place-exact}

pub made_by_key : MadeByKey
made_by_key s load was made lawful each named = record {
  results = λ k row touched. (
    λ is. (each k row touched).0 (sym (load_is_changes s load was k lawful) ∙ is),
    λ h. load_is_changes s load was k lawful ∙ (each k row touched).1 h,
  );
  named = named;
}

or_none : (a b : Truth) → a ≡ false → (a || b) ≡ b
or_none true b e = cc
or_none false b e = refl

or_false : (a b : Truth) → b ≡ false → (a || b) ≡ a
or_false true b e = refl
or_false false b e = e

-- a place outside the files of some places is none of them
pub outside : (parts : List Part) (places : List Place) (p : Place) → AreIn parts places → names parts p.segment ≡ false → stands_in places p ≡ false
outside parts places p within apart = go (stands_in places p) refl
  where
    go : (b : Truth) → stands_in places p ≡ b → b ≡ false
    go false e = refl
    go true e = absurd (clash (names parts p.segment) (within p e) apart)

module _ (s : Layout) (load : Load) (rows : Files) (was now : Rows) (again : List (List Value)) (made remade : List Part) (dead : List Place)
    (settled : AreSettled s load was now again (live rows made) (live rows remade) dead) (are : AreAgain s load was now again) (apart : Apart made remade) where
  abbrev fresh : Live
  fresh = live rows (marked dead (made ++ remade))

  is_fresh : (d : Truth) (p : Place) (row : List Value) → stands_in dead p ≡ d → live rows (made ++ remade) p ≡ Some row → fresh p ≡ cond d None (Some row)
  is_fresh d p row e is = live-marked rows dead (made ++ remade) p ∙ ap (λ b. cond b None (live rows (made ++ remade) p)) e ∙ ap (cond d None) is

  from_remade : (p : Place) (row : List Value) → live rows remade p ≡ Some row → fresh p ≡ Some row
  from_remade p row is = is_fresh false p row (settled.stay p (key_of s row) (row, is, refl)) (live-top rows made remade apart p row is)

  from_made : (p : Place) (k row : List Value) → live rows made p ≡ Some row → key_of s row ≡ k → is_among again k ≡ false → fresh p ≡ Some row
  from_made p k row is key other = is_fresh false p row (settled.superseded p k (row, is, key) ∙ other) (live-base rows made remade p row is)

  -- a row that is live of both is one made before whose key isn't made again, or one made again
  of_both : (p : Place) (k row : List Value) → fresh p ≡ Some row → key_of s row ≡ k → ((live rows made p ≡ Some row) × (is_among again k ≡ false)) ⊎ (live rows remade p ≡ Some row)
  of_both p k row is key = go (parted rows made remade p row (live-before rows dead (made ++ remade) p row is))
    where
      none_some : (o : Option (List Value)) → o ≡ None → o ≡ Some row → ⊥
      none_some o e f = cc (sym e ∙ f)

      live_one : live rows made p ≡ Some row → (b : Truth) → is_among again k ≡ b → b ≡ false
      live_one old false e = refl
      live_one old true e = absurd (none_some (fresh p) (is_fresh true p row (settled.superseded p k (row, old, key) ∙ e) (live-base rows made remade p row old)) is)

      go : (live rows made p ≡ Some row) ⊎ (live rows remade p ≡ Some row) → ((live rows made p ≡ Some row) × (is_among again k ≡ false)) ⊎ (live rows remade p ≡ Some row)
      go (inl old) = inl (old, live_one old (is_among again k) refl)
      go (inr new) = inr new

  -- of a key that is made again the live rows are those made again
  when_again : (k : List Value) → is_among again k ≡ true → (p : Place) (row : List Value) → key_of s row ≡ k → (live rows remade p ≡ Some row) ↔ (fresh p ≡ Some row)
  when_again k among p row key = (from_remade p row, λ is. go (of_both p k row is key))
    where
      go : ((live rows made p ≡ Some row) × (is_among again k ≡ false)) ⊎ (live rows remade p ≡ Some row) → live rows remade p ≡ Some row
      go (inl h) = absurd (clash (is_among again k) among h.1)
      go (inr new) = new

  -- and of another those made before
  when_not : (k : List Value) → is_among again k ≡ false → (p : Place) (row : List Value) → key_of s row ≡ k → (live rows made p ≡ Some row) ↔ (fresh p ≡ Some row)
  when_not k other p row key = (λ is. from_made p k row is key other, λ is. go (of_both p k row is key))
    where
      go : ((live rows made p ≡ Some row) × (is_among again k ≡ false)) ⊎ (live rows remade p ≡ Some row) → live rows made p ≡ Some row
      go (inl h) = h.0
      go (inr new) = absurd (clash (is_among again k) (settled.since.named p k (row, new, key)) other)

  results : (k row : List Value) → is_among (touches load.ops) k ≡ true → (get (after s load now) k ≡ Some row) ↔ HasRow s fresh k row
  results k row touched = go (is_among again k) refl
    where
      go : (b : Truth) → is_among again k ≡ b → (get (after s load now) k ≡ Some row) ↔ HasRow s fresh k row
      go true e = (
        λ is. let h = (settled.since.results k row e).0 is in (h.0, (when_again k e h.0 row h.2).0 h.1, h.2),
        λ h. (settled.since.results k row e).1 (h.0, (when_again k e h.0 row h.2).1 h.1, h.2),
      )
      go false e = (
        λ is. let h = (settled.before.results k row touched).0 (sym (are.same k touched e) ∙ is) in (h.0, (when_not k e h.0 row h.2).0 h.1, h.2),
        λ h. are.same k touched e ∙ (settled.before.results k row touched).1 (h.0, (when_not k e h.0 row h.2).1 h.1, h.2),
      )

  named : (p : Place) (k : List Value) → HasKey s fresh p k → is_among (touches load.ops) k ≡ true
  named p k h = go (of_both p k h.0 h.1 h.2)
    where
      go : ((live rows made p ≡ Some h.0) × (is_among again k ≡ false)) ⊎ (live rows remade p ≡ Some h.0) → is_among (touches load.ops) k ≡ true
      go (inl old) = settled.before.named p k (h.0, old.0, h.2)
      go (inr new) = are.named k (settled.since.named p k (h.0, new, h.2))

  pub are_results : AreResultsOver s load now fresh
  are_results = record { results = results; named = named }

  pub places : (index made_at remade_at : Index) → IsIndex s (live rows made) made_at → IsIndex s (live rows remade) remade_at
      → IsIndexAfter s (touches load.ops) fresh index (settled_index (touches load.ops) again made_at remade_at index)
  places index made_at remade_at at_made at_remade = record {
    moved = λ k p touched. go k p touched (is_among again k) refl;
    kept = λ k other. ap (λ b. cond b (cond (is_among again k) (remade_at k) (made_at k)) (index k)) other;
  }
    where
      next : Index
      next = settled_index (touches load.ops) again made_at remade_at index

      at : (k : List Value) (b : Truth) → is_among (touches load.ops) k ≡ true → is_among again k ≡ b → next k ≡ cond b (remade_at k) (made_at k)
      at k b touched e = ap (λ t. cond t (cond (is_among again k) (remade_at k) (made_at k)) (index k)) touched ∙ ap (λ t. cond t (remade_at k) (made_at k)) e

      go : (k : List Value) (p : Place) → is_among (touches load.ops) k ≡ true → (b : Truth) → is_among again k ≡ b → (next k ≡ Some p) ↔ HasKey s fresh p k
      go k p touched true e = (
        λ is. let h = (at_remade k p).0 (sym (at k true touched e) ∙ is) in (h.0, (when_again k e p h.0 h.2).0 h.1, h.2),
        λ h. at k true touched e ∙ (at_remade k p).1 (h.0, (when_again k e p h.0 h.2).1 h.1, h.2),
      )
      go k p touched false e = (
        λ is. let h = (at_made k p).0 (sym (at k false touched e) ∙ is) in (h.0, (when_not k e p h.0 h.2).0 h.1, h.2),
        λ h. at k false touched e ∙ (at_made k p).1 (h.0, (when_not k e p h.0 h.2).1 h.1, h.2),
      )

  -- a load that writes leaves a live row
  written : writes load.ops ≡ true → (p : Place) × (row : List Value) × (fresh p ≡ Some row)
  written w =
      let found = write-leaves-row s load now w in
      go found.0 found.1 (get (after s load now) found.0) refl found.2
    where
      go : (k : List Value) → is_among (touches load.ops) k ≡ true → (o : Option (List Value)) → get (after s load now) k ≡ o → is_some o ≡ true → (p : Place) × (row : List Value) × (fresh p ≡ Some row)
      go k touched None e h = cc
      go k touched (Some row) e h = let has = (results k row touched).0 e in (has.0, row, has.1)

  -- a row that a load gives over some rows is one that it writes
  writes_row : (m : Rows) (k row : List Value) → is_among (touches load.ops) k ≡ true → get (after s load m) k ≡ Some row → writes load.ops ≡ true
  writes_row m k row touched is = go (writes load.ops) refl
    where
      none_some : (o : Option (List Value)) → o ≡ None → o ≡ Some row → ⊥
      none_some o e f = cc (sym e ∙ f)

      go : (b : Truth) → writes load.ops ≡ b → b ≡ true
      go true e = refl
      go false e = absurd (none_some (get (after s load m) k) (no_write_no_row s load m k e touched) is)

  pub has_row : ComeWithRow rows [] made → ComeWithRow rows [] remade → ComeWithRow rows dead (made ++ remade)
  has_row (inr h) others =
      let is : live rows made h.0 ≡ Some h.1 = live-before rows [] made h.0 h.1 h.2 in
      let k : List Value = key_of s h.1 in
      let touched : is_among (touches load.ops) k ≡ true = settled.before.named h.0 k (h.1, is, refl) in
      inr (written (writes_row was k h.1 touched ((settled.before.results k h.1 touched).1 (h.0, is, refl))))
  has_row (inl none) (inr h) = inr (h.0, h.1, from_remade h.0 h.1 (live-before rows [] remade h.0 h.1 h.2))
  has_row (inl none) (inl no_other) = inl (ap (λ ps. ps ++ remade) none ∙ no_other)

pub settled_are_results : SettledAreResults
settled_are_results s load rows was now again made remade dead settled are apart = are_results s load rows was now again made remade dead settled are apart

pub settled_makes_load : SettledMakesLoad
settled_makes_load s load rows old was now again made remade dead index made_at remade_at settled are apart gone at_made at_remade =
    parts_make_load s load old index now (live rows (marked dead (made ++ remade))) dead (settled_index (touches load.ops) again made_at remade_at index)
    (are_results s load rows was now again made remade dead settled are apart) gone
    (places s load rows was now again made remade dead settled are apart index made_at remade_at at_made at_remade)

pub settled_has_row : SettledHasRow
settled_has_row s load rows was now again made remade dead settled are apart first second = has_row s load rows was now again made remade dead settled are apart first second

pub dead_of_both : DeadOfBoth
dead_of_both s past rows touched again current made remade dead superseded all_dead made_new remade_new apart dead_in superseded_in both gone superseding = (
  λ p k h.
      let other : names made p.segment ≡ false = made_new p.segment (live-named past current p h.0 h.1) in
      both p ∙ or_false (stands_in dead p) (stands_in superseded p) (outside made superseded p superseded_in other) ∙ gone p k h,
  λ p k h.
      let other : names current p.segment ≡ false = unnamed current made made_new p.segment (live-named rows made p h.0 h.1) in
      both p ∙ or_none (stands_in dead p) (stands_in superseded p) (outside current dead p dead_in other) ∙ superseding p k h,
  λ p k h.
      let here : names remade p.segment ≡ true = live-named rows remade p h.0 h.1 in
      let other : names current p.segment ≡ false = unnamed current remade remade_new p.segment here in
      let not_made : names made p.segment ≡ false = unnamed made remade apart p.segment here in
      both p ∙ or_none (stands_in dead p) (stands_in superseded p) (outside current dead p dead_in other) ∙ outside made superseded p superseded_in not_made,
)

-- the keys that moved are those that may have got another row
pub moved_are_again : MovedAreAgain
moved_are_again s load past was kept rows current index now located meanwhile were = record { named = named; same = same }
  where
    named : (k : List Value) → is_among (keys_of (moved (stays_live past kept) index located)) k ≡ true → is_among (touches load.ops) k ≡ true
    named k h = go (is_among (keys_of located) k) refl
      where
        go : (b : Truth) → is_among (keys_of located) k ≡ b → is_among (touches load.ops) k ≡ true
        go true e = sym (were.named k) ∙ e
        go false e = absurd (clash (is_among (keys_of (moved (stays_live past kept) index located)) k) h (not-gained (λ e. has_moved (stays_live past kept) e.place (index e.key)) located k e))

    same : (k : List Value) → is_among (touches load.ops) k ≡ true → is_among (keys_of (moved (stays_live past kept) index located)) k ≡ false → get (after s load now) k ≡ get (after s load was) k
    same k touched other =
        let still : has_moved (stays_live past kept) (place_in located k) (index k) ≡ false =
        ap (λ b. b && has_moved (stays_live past kept) (place_in located k) (index k)) (sym (were.named k ∙ touched)) ∙ sym (moved_are located (stays_live past kept) index k were.once) ∙ other in
        unmoved_keeps_result s load past was kept rows current index now k (place_in located k) meanwhile (were.absent k touched) still

pub located_load_stands : LocatedLoadStands
located_load_stands s load past was kept rows current index now located made remade dead made_at remade_at meanwhile were settled gone new apart at_made at_remade =
    let again = keys_of (moved (stays_live past kept) index located) in
    let are = moved_are_again s load past was kept rows current index now located meanwhile were in
    let makes = settled_makes_load s load rows (live rows (parts_of current)) was now again made remade dead index made_at remade_at settled are apart gone at_made at_remade in
    publishing_stands s rows current (made ++ remade) dead index (settled_index (touches load.ops) again made_at remade_at index) (touches load.ops) now (after s load now)
    meanwhile.exact meanwhile.stands new makes

pub stale_is_wrong : StaleIsWrong
stale_is_wrong s load now new k stale has other stands = other ((stands.same k stale).1 has)

pub located_load_is_held : LocatedLoadIsHeld
located_load_is_held s load rows h b v was located made remade dead made_at remade_at holds had alike reads lawful were gone groups =
    let again = keys_of (moved (stays_live (rows v) (held_at h b.floor v)) h.index located) in
    let next = rows (version b + 1) in
    let meanwhile = held_is_meanwhile s rows h b v was holds had alike in
    let are = moved_are_again s load (rows v) was (held_at h b.floor v) (rows (version b)) h.current h.index b.current located meanwhile were in
    let makes = settled_makes_load s load next (live (rows (version b)) (parts_of h.current)) was b.current again made remade dead h.index made_at remade_at groups.settled are groups.apart gone
    groups.made_places groups.remade_places in
    let come = settled_has_row s load next was b.current again made remade dead groups.settled are groups.apart groups.made_some groups.remade_some in
    load_is_held s rows h b load dead (made ++ remade) (settled_index (touches load.ops) again made_at remade_at h.index) holds reads groups.new groups.once makes come lawful

-- a place that an index gives to one of some keys
pub found_at : (index : Index) (keys : List (List Value)) (p : Place) → stands_in (places_of index keys) p ≡ true → (k : List Value) × (index k ≡ Some p)
found_at index [] p h = cc
found_at index (k ∷ ks) p h = go (index k) refl (sym (list_any-append (same_place p) (option_to_list (index k)) (places_of index ks)) ∙ h) (found_at index ks p)
  where
    go : (o : Option Place) → index k ≡ o → (list_any (same_place p) (option_to_list o) || stands_in (places_of index ks) p) ≡ true
        → (stands_in (places_of index ks) p ≡ true → (k : List Value) × (index k ≡ Some p)) → (k : List Value) × (index k ≡ Some p)
    go None is h more = more h
    go (Some q) is h more = tell (same_place p q) refl h
      where
        tell : (b : Truth) → same_place p q ≡ b → ((b || false) || stands_in (places_of index ks) p) ≡ true → (k : List Value) × (index k ≡ Some p)
        tell true e h = (k, is ∙ ap Some (same_place-exact p q e))
        tell false e h = more h

pub found_are_in : FoundAreIn
found_are_in s rows parts index keys exact p h =
    let found = found_at index keys p h in
    let has = (exact found.0 p).0 found.1 in
    live-named rows parts p has.0 has.1

pub found_are_dead : FoundAreDead
found_are_dead s past rows touched located again current made remade index made_at dead exact at_made named made_new remade_new apart both =
    let old = places_are_old s (live past current) index (keys_of located) exact in
    dead_of_both s past rows touched (keys_of again) current made remade (places_of index (keys_of located)) (places_of made_at (keys_of again)) dead made_new remade_new apart
    (found_are_in s past current index (keys_of located) exact) (found_are_in s rows made made_at (keys_of again) at_made) both
    (λ p k h. old p k h ∙ named k) (places_are_old s (live rows made) made_at (keys_of again) at_made)

-- moves whose places follow from their keys
after_moves : (f : List Value → Option Place) (es : List Located) (k : List Value) (old : Option Place)
    → place_after (map (λ e. record { key = e.key; place = f e.key }) es) k old ≡ cond (is_among (keys_of es) k) (f k) old
after_moves f [] k old = refl
after_moves f (e ∷ es) k old = after_moves f es k (cond (eq_by_cmp key_cmp k e.key) (f e.key) old) ∙ go (is_among (keys_of es) k) (eq_by_cmp key_cmp k e.key) refl
  where
    go : (a b : Truth) → eq_by_cmp key_cmp k e.key ≡ b → cond a (f k) (cond b (f e.key) old) ≡ cond (b || a) (f k) old
    go true true same = refl
    go true false same = refl
    go false true same = ap f (sym (tells_apart key_exact k e.key same))
    go false false same = refl

are_moved : (f : List Value → Option Place) (es : List Located) (k : List Value) → is_moved (map (λ e. record { key = e.key; place = f e.key }) es) k ≡ is_among (keys_of es) k
are_moved f [] k = refl
are_moved f (e ∷ es) k = ap (λ b. eq_by_cmp key_cmp k e.key || b) (are_moved f es k)

pub settled_moves_move : SettledMovesMove
settled_moves_move touched again index made_at remade_at located named k =
    after_moves (λ q. cond (is_among again q) (remade_at q) (made_at q)) located k (index k)
    ∙ ap (λ b. cond b (cond (is_among again k) (remade_at k) (made_at k)) (index k)) (named k)

pub settled_is_ready : SettledIsReady
settled_is_ready s load rows was now again made remade stale index made_at remade_at located settled are apart at_made at_remade named = record {
  results = are_results s load rows was now again made remade stale settled are apart;
  found = record { only = λ k e. sym (named k) ∙ e; all = λ k e f. absurd (clash (is_among (keys_of located) k) (named k ∙ e) f) };
  cover = record { only = λ k e. sym (moves_named k) ∙ e; all = λ k e f. absurd (clash (is_moved (settled_moves again made_at remade_at located) k) (moves_named k ∙ e) f) };
  places = λ k p. go k p (is_among (touches load.ops) k) refl;
}
  where
    moves_named : (k : List Value) → is_moved (settled_moves again made_at remade_at located) k ≡ is_among (touches load.ops) k
    moves_named k = are_moved (λ q. cond (is_among again q) (remade_at q) (made_at q)) located k ∙ named k

    at : (k : List Value) (b : Truth) → is_among (touches load.ops) k ≡ b
        → place_after (settled_moves again made_at remade_at located) k None ≡ cond b (settled_index (touches load.ops) again made_at remade_at index k) None
    at k true e =
        after_moves (λ q. cond (is_among again q) (remade_at q) (made_at q)) located k None ∙ ap (λ b. cond b (cond (is_among again k) (remade_at k) (made_at k)) None) (named k ∙ e)
        ∙ ap (λ b. cond b (cond (is_among again k) (remade_at k) (made_at k)) (index k)) (sym e)
    at k false e =
        after_moves (λ q. cond (is_among again q) (remade_at q) (made_at q)) located k None ∙ ap (λ b. cond b (cond (is_among again k) (remade_at k) (made_at k)) None) (named k ∙ e)

    go : (k : List Value) (p : Place) (b : Truth) → is_among (touches load.ops) k ≡ b
        → (place_after (settled_moves again made_at remade_at located) k None ≡ Some p) ↔ HasKey s (live rows (marked stale (made ++ remade))) p k
    go k p true e =
        let there = places s load rows was now again made remade stale settled are apart index made_at remade_at at_made at_remade in (
          λ is. (there.moved k p e).0 (sym (at k true e) ∙ is),
          λ has. at k true e ∙ (there.moved k p e).1 has,
        )
    go k p false e = (
      λ is. let none : None ≡ Some p = sym (at k false e) ∙ is in cc,
      λ has. absurd (clash (is_among (touches load.ops) k) ((are_results s load rows was now again made remade stale settled are apart).named p k has) e),
    )
