-- How a tablet makes its changes.
use Rattle.std.proofs.Common.{◌≡◌, ◌↔◌, refl, ap, sym, subst, ◌∙◌, inl, inr, ℕ, ◌+◌, List, [], ◌∷◌, ◌++◌, map, length, take, drop, slice_get, Option, Some, None, Bool, true, false, ◌||◌, ◌==◌, cond, option_to_list, eq-eqb, is_some, ◌⊎◌}
use Rattle.std.specs.List.{list_any, AllByRecursion}
use Rattle.std.specs.FinMap.{get, keys, len, entries, len-entries, empty, get-empty, values}
use Rattle.std.proofs.lemmas.Bool.{eqb-true, or_cases}
use Rattle.std.proofs.lemmas.List.{length-map, map-append}
use Rattle.std.proofs.lemmas.List.Folds.{list_any-append}
use Rattle.key_code.proofs.KeyLemmas.{only_key}
use Rattle.pk_values.specs.Schemas.{Layout, key_of}
use Rattle.pk_values.specs.declared.cells.Value.{Value}
use Rattle.pk_model.specs.Books.{version, late as late_of}
use Rattle.pk_model.specs.Laws.{KeysStandFirst}
use Rattle.pk_model.specs.Tables.{Rows, after, touches}
use Rattle.pk_model.proofs.LineLaws.{rows-tell-keys}
use Rattle.index_level0.specs.declared.place.Place.{Place}
use Rattle.std.specs.Ordering.{eq_by_cmp}
use Rattle.std.specs.Cmp.{eq_by_cmp_equiv}
use Rattle.std.proofs.lemmas.Map.Views.{tells_apart}
use Rattle.pk_values.specs.Order.{key_cmp}
use Rattle.pk_values.specs.OrderFacts.{key_total, key_exact}
use Rattle.pk_model.proofs.LawfulLaws.{lawful-keeps-keys}
use Rattle.rowsets.specs.Live.{Part, Version, parts_of, Files, Live, live, names, is_dead, Apart, HasKey, StandsFor, Index, IsIndex, is_among}
use Rattle.rowsets.specs.Marks.{same_place, stands_in, rows_in_file, with_rows, marked_part, marked}
use Rattle.rowsets.specs.Changes.{AreOldRows, AreResults, IsIndexAfter, one_rowset}
use Rattle.rowsets.specs.Loads.{ComeWithRow, AreResultsOver}
use Rattle.rowsets.specs.Ending.{Moved, AreLate, AreMoved, found_late, index_after_end}
use Rattle.rowsets.specs.Merging.{all_live, written, moved_to, numbered, with_files}
use Rattle.rowsets.specs.Indexing.{moved_index, places_of, kept_moves, merged_place, Move, is_moved, place_after}
use Rattle.rowsets.specs.Books.{HoldsPlan, HoldsPlans, EndsPlan}
use Rattle.rowsets.specs.Steps.{EachWholeLoadIsReady, whole_load_moves, MarkedBySame, ReadyIsHeld, WrittenIsMerge, MergeIsHeld, OnlyMergedMarked, SamePlaceSameRow, KeyCodesTell}
use Rattle.rowsets.proofs.MarkFacts.{union_has_both, union_rises, one_rising_list}
use Rattle.rowsets.proofs.LiveFacts.{any_rows, live-marked, live-named, live-unnamed, names-append, same_place-exact, same_place-same}
use Rattle.rowsets.proofs.LoadFacts.{parts_make_load}
use Rattle.rowsets.proofs.PlanFacts.{first_and_last}
use Rattle.rowsets.proofs.EndFacts.{one_map_same_rows}
use Rattle.rowsets.proofs.FindingFacts.{index_finds_late}
use Rattle.rowsets.proofs.WrittenFacts.{written_stand, written_are_moved, whole_load_written, numbered_are_written}
use Rattle.rowsets.proofs.IndexFacts.{places_are_old_rows, moves_make_index, kept_moves_make_index}
use Rattle.rowsets.proofs.BookFacts.{load_is_held, end_is_held}

nothing_same : {X : Type 0} (x : X) → None ≡ Some x → ⊥
nothing_same x e = cc

some_same : {X : Type 0} (x y : X) → Some x ≡ Some y → x ≡ y
some_same x y e = cc

clash : (b : Bool) → b ≡ true → b ≡ false → ⊥
clash b e f = cc (sym e ∙ f)

pub marked_by_same : MarkedBySame
marked_by_same xs ys [] same rise = refl
marked_by_same xs ys (part ∷ parts) same rise = ap (λ (ds : List ℕ). record part { dead = ds } ∷ marked xs parts) one ∙ ap (λ ps. marked_part ys part ∷ ps) (marked_by_same xs ys parts same rise.1)
  where
    at : (zs : List Place) (n : ℕ) → list_any (λ r. r == n) (with_rows (rows_in_file zs part.file) part.dead) ≡ (stands_in zs (record { segment = part.file; row = n }) || list_any (λ r. r == n) part.dead)
    at zs n = union_has_both (rows_in_file zs part.file) part.dead n ∙ ap (λ b. b || list_any (λ r. r == n) part.dead) (any_rows zs (record { segment = part.file; row = n }))

    one : with_rows (rows_in_file xs part.file) part.dead ≡ with_rows (rows_in_file ys part.file) part.dead
    one = one_rising_list (with_rows (rows_in_file xs part.file) part.dead) (with_rows (rows_in_file ys part.file) part.dead)
        (union_rises (rows_in_file xs part.file) part.dead rise.0) (union_rises (rows_in_file ys part.file) part.dead rise.0)
        (λ n. at xs n ∙ ap (λ b. b || list_any (λ r. r == n) part.dead) (same (record { segment = part.file; row = n })) ∙ sym (at ys n))

-- the places that an index finds stand in the files that it is of
found_named : (s : Layout) (rows : Files) (old : List Part) (index : Index) (ks : List (List Value)) → IsIndex s (live rows old) index
    → (p : Place) → stands_in (places_of index ks) p ≡ true → names old p.segment ≡ true
found_named s rows old index [] exact p e = cc
found_named s rows old index (k ∷ ks) exact p e =
    elim (or_cases (stands_in (option_to_list (index k)) p) (stands_in (places_of index ks) p) (sym (list_any-append (same_place p) (option_to_list (index k)) (places_of index ks)) ∙ e)) [
      | inl here ↦ first (index k) refl here
      | inr later ↦ found_named s rows old index ks exact p later
    ]
  where
    first : (o : Option Place) → index k ≡ o → stands_in (option_to_list o) p ≡ true → names old p.segment ≡ true
    first None f h = cc
    first (Some q) f h =
        let same : q ≡ p = same_place-exact p q (only (same_place p q) h) in
        let has = (exact k q).0 f in
        ap (λ (x : Place). names old x.segment) (sym same) ∙ live-named rows old q has.0 has.1
      where
        only : (b : Bool) → (b || false) ≡ true → b ≡ true
        only true e = refl
        only false e = e

after-append : (xs ys : List Move) (k : List Value) (old : Option Place) → place_after (xs ++ ys) k old ≡ place_after ys k (place_after xs k old)
after-append [] ys k old = refl
after-append (x ∷ xs) ys k old = after-append xs ys k (cond (eq_by_cmp key_cmp k x.key) x.place old)

abbrev no_places : List (List Value) → List Move
no_places ks = map (λ k. record { key = k; place = None }) ks

abbrev new_places : List Moved → List Move
new_places es = map (λ e. record { key = e.key; place = Some e.place }) es

none_placed : (ks : List (List Value)) (k : List Value) → place_after (no_places ks) k None ≡ None
none_placed [] k = refl
none_placed (q ∷ ks) k = ap (place_after (no_places ks) k) (either (eq_by_cmp key_cmp k q)) ∙ none_placed ks k
  where
    either : (b : Bool) → let none : Option Place = None in cond b none none ≡ none
    either true = refl
    either false = refl

moved-none : (ks : List (List Value)) (k : List Value) → is_moved (no_places ks) k ≡ is_among ks k
moved-none [] k = refl
moved-none (q ∷ ks) k = ap (λ b. eq_by_cmp key_cmp k q || b) (moved-none ks k)

-- a place that these moves lead to is a merged row's
module _ (s : Layout) (fresh : Live) where
  placed_has : (es : List Moved) → AllByRecursion (λ e. HasKey s fresh e.place e.key) es → (k : List Value) (p : Place) (old : Option Place) → place_after (new_places es) k old ≡ Some p
      → (old ≡ Some p) ⊎ HasKey s fresh p k
  placed_has [] each k p old is = inl is
  placed_has (e ∷ es) each k p old is =
      elim (placed_has es each.1 k p (cond (eq_by_cmp key_cmp k e.key) (Some e.place) old) is) [
        | inl here ↦ first (eq_by_cmp key_cmp k e.key) refl here
        | inr later ↦ inr later
      ]
    where
      first : (b : Bool) → eq_by_cmp key_cmp k e.key ≡ b → cond b (Some e.place) old ≡ Some p → (old ≡ Some p) ⊎ HasKey s fresh p k
      first true f g =
          let h = each.0 in
          inr (h.0, ap fresh (sym (some_same e.place p g)) ∙ h.1, h.2 ∙ sym (tells_apart key_exact k e.key f))
      first false f g = inl g

  -- a key that moves gets a place
  moved_some : (es : List Moved) (k : List Value) (old : Option Place) → is_some old ≡ true → is_some (place_after (new_places es) k old) ≡ true
  moved_some [] k old e = e
  moved_some (d ∷ es) k old e = moved_some es k (cond (eq_by_cmp key_cmp k d.key) (Some d.place) old) (either (eq_by_cmp key_cmp k d.key))
    where
      either : (b : Bool) → is_some (cond b (Some d.place) old) ≡ true
      either true = refl
      either false = e

  -- a row that is listed has its key among the moves
  listed_moves : (es : List Moved) → AllByRecursion (λ e. HasKey s fresh e.place e.key) es → (p : Place) (k : List Value) (old : Option Place) → HasKey s fresh p k
      → stands_in (map (λ e. e.place) es) p ≡ true → is_some (place_after (new_places es) k old) ≡ true
  listed_moves [] each p k old has e = cc
  listed_moves (d ∷ es) each p k old has e = go (same_place p d.place) refl e (listed_moves es each.1 p k (cond (eq_by_cmp key_cmp k d.key) (Some d.place) old) has)
    where
      go : (a : Bool) → same_place p d.place ≡ a → (a || stands_in (map (λ e. e.place) es) p) ≡ true
          → (stands_in (map (λ e. e.place) es) p ≡ true → is_some (place_after (new_places es) k (cond (eq_by_cmp key_cmp k d.key) (Some d.place) old)) ≡ true)
          → is_some (place_after (new_places es) k (cond (eq_by_cmp key_cmp k d.key) (Some d.place) old)) ≡ true
      go false f e more = more e
      go true f e more =
          let h = each.0 in
          let at : fresh p ≡ Some h.0 = ap fresh (sym (same_place-exact p d.place f)) ∙ h.1 in
          let key : k ≡ d.key = sym has.2 ∙ ap (key_of s) (some_same has.0 h.0 (sym has.1 ∙ at)) ∙ h.2 in
          moved_some es k (cond (eq_by_cmp key_cmp k d.key) (Some d.place) old)
          (ap (λ b. is_some (cond b (Some d.place) old)) (ap (eq_by_cmp key_cmp k) (sym key) ∙ (eq_by_cmp_equiv key_total).refl k))

some_of : {X : Type 0} (o : Option X) → is_some o ≡ true → (x : X) × (o ≡ Some x)
some_of None e = cc
some_of (Some x) e = (x, refl)

pub each_whole_load_is_ready : EachWholeLoadIsReady
each_whole_load_is_ready s load m index n files rows lawful whole_load are wrote = record {
  results = results;
  found = record { only = λ k e. e; all = λ k e f. absurd (clash (is_among (touches load.ops) k) e f) };
  cover = record { only = only; all = λ k e f. absurd (clash (is_moved moves k) (touched_moves k e) f) };
  places = λ k p. (
    λ is. elim (placed_has s fresh placed are_moved.each k p None (sym (ends k) ∙ is)) [ inl none ↦ absurd (nothing_same p none) | inr has ↦ has ],
    λ h. let w = some_of (place_after (new_places placed) k None) (listed_moves s fresh placed are_moved.each p k None h (are_moved.all p h.0 h.1)) in
        ends k ∙ w.1 ∙ elim (placed_has s fresh placed are_moved.each k w.0 None w.1) [ inl none ↦ absurd (nothing_same w.0 none) | inr has ↦ ap Some (stands.once w.0 p k has h) ],
  );
}
  where
    now : Files
    now = with_files n files rows

    numbers : List ℕ
    numbers = numbered n files

    fresh : Live
    fresh = live (with_files n files rows) (map all_live (numbered n files))

    placed : List Moved
    placed = moved_to s (with_files n files rows) (numbered n files)

    moves : List Move
    moves = whole_load_moves s load (with_files n files rows) (numbered n files)

    written_is : written (with_files n files rows) (numbered n files) ≡ values (after s load empty)
    written_is = numbered_are_written n files rows ∙ wrote

    results : AreResultsOver s load m (live (with_files n files rows) (map all_live (numbered n files)))
    results = whole_load_written s load (with_files n files rows) (numbered n files) lawful whole_load written_is m are

    first : KeysStandFirst s (after s load empty)
    first = lawful-keeps-keys s load empty lawful (λ k row e. absurd (nothing_same row (sym (get-empty key_cmp k) ∙ e)))

    stands : StandsFor s (live (with_files n files rows) (map all_live (numbered n files))) (after s load empty)
    stands = written_stand s (with_files n files rows) (numbered n files) (after s load empty) first written_is

    are_moved : AreMoved s (live (with_files n files rows) (map all_live (numbered n files))) (moved_to s (with_files n files rows) (numbered n files))
    are_moved = (written_are_moved s (with_files n files rows) (numbered n files)).0

    ends : (k : List Value) → place_after moves k None ≡ place_after (new_places placed) k None
    ends k = after-append (no_places (touches load.ops)) (new_places placed) k None ∙ ap (place_after (new_places placed) k) (none_placed (touches load.ops) k)

    split : (k : List Value) → is_moved moves k ≡ (is_among (touches load.ops) k || is_moved (new_places placed) k)
    split k = list_any-append (λ (c : Move). eq_by_cmp key_cmp k c.key) (no_places (touches load.ops)) (new_places placed) ∙ ap (λ b. b || is_moved (new_places placed) k) (moved-none (touches load.ops) k)

    touched_moves : (k : List Value) → is_among (touches load.ops) k ≡ true → is_moved moves k ≡ true
    touched_moves k e = split k ∙ ap (λ b. b || is_moved (new_places placed) k) e

    -- a key that moves to a new row has it
    row_touched : (es : List Moved) → AllByRecursion (λ e. HasKey s (live (with_files n files rows) (map all_live (numbered n files))) e.place e.key) es → (k : List Value) → is_moved (new_places es) k ≡ true → is_among (touches load.ops) k ≡ true
    row_touched [] each k e = cc
    row_touched (d ∷ es) each k e =
        elim (or_cases (eq_by_cmp key_cmp k d.key) (is_moved (new_places es) k) e) [
          | inl here ↦ ap (is_among (touches load.ops)) (tells_apart key_exact k d.key here) ∙ results.named d.place d.key each.0
          | inr later ↦ row_touched es each.1 k later
        ]

    only : (k : List Value) → is_moved moves k ≡ true → is_among (touches load.ops) k ≡ true
    only k e =
        elim (or_cases (is_among (touches load.ops) k) (is_moved (new_places placed) k) (sym (split k) ∙ e)) [
          | inl here ↦ here
          | inr there ↦ row_touched placed are_moved.each k there
        ]

pub ready_is_held : ReadyIsHeld
ready_is_held s rows h b load new looked_up stale dead moves holds alike apart new_once ready of_new same come lawful =
    load_is_held s rows h b load dead new (moved_index moves h.index) holds alike apart new_once
    (parts_make_load s load old h.index b.current (live now (marked dead new)) dead (moved_index moves h.index) results old_rows places) come_now lawful
  where
    now : Files
    now = rows (version b + 1)

    old : Live
    old = live (rows (version b)) (parts_of h.current)

    found : List Place
    found = places_of h.index looked_up

    either : (p : Place) → stands_in dead p ≡ (stands_in (places_of h.index looked_up) p || stands_in stale p)
    either p = same p ∙ list_any-append (same_place p) (places_of h.index looked_up) stale

    -- what the index finds isn't in the new files
    spares : (p : Place) → live now (marked dead new) p ≡ live now (marked stale new) p
    spares p = live-marked now dead new p ∙ go (stands_in (places_of h.index looked_up) p) refl ∙ sym (live-marked now stale new p)
      where
        both_none : (a c : Bool) (x : Option (List Value)) → x ≡ None → cond a None x ≡ cond c None x
        both_none true true x e = refl
        both_none true false x e = sym e
        both_none false true x e = e
        both_none false false x e = refl

        go : (a : Bool) → stands_in (places_of h.index looked_up) p ≡ a → cond (stands_in dead p) None (live now new p) ≡ cond (stands_in stale p) None (live now new p)
        go true e =
            let named = found_named s (rows (version b)) (parts_of h.current) h.index looked_up holds.exact p e in
            both_none (stands_in dead p) (stands_in stale p) (live now new p) (live-unnamed now new p (apart p.segment named))
        go false e = ap (λ d. cond d None (live now new p)) (either p ∙ ap (λ a. a || stands_in stale p) e)

    old_rows : AreOldRows s (touches load.ops) old dead
    old_rows p k has =
        either p ∙ ap (λ c. stands_in found p || c) (not_stale (stands_in stale p) refl) ∙ or_none (stands_in found p)
        ∙ places_are_old_rows s (touches load.ops) looked_up old h.index holds.exact ready.found p k has
      where
        or_none : (a : Bool) → (a || false) ≡ a
        or_none true = refl
        or_none false = refl

        not_stale : (c : Bool) → stands_in stale p ≡ c → c ≡ false
        not_stale false e = refl
        not_stale true e = absurd (clash (names new p.segment) (of_new p e) (apart p.segment (live-named (rows (version b)) (parts_of h.current) p has.0 has.1)))

    has_key : (p : Place) (k : List Value) → HasKey s (live now (marked dead new)) p k ↔ HasKey s (live now (marked stale new)) p k
    has_key p k = (λ g. (g.0, sym (spares p) ∙ g.1, g.2), λ g. (g.0, spares p ∙ g.1, g.2))

    results : AreResults s (touches load.ops) (after s load b.current) (live now (marked dead new))
    results = record {
      results = λ k row e. (
        λ is. let g = (ready.results.results k row e).0 is in (g.0, spares g.0 ∙ g.1, g.2),
        λ g. (ready.results.results k row e).1 (g.0, sym (spares g.0) ∙ g.1, g.2),
      );
      named = λ p k g. ready.results.named p k ((has_key p k).0 g);
    }

    places : IsIndexAfter s (touches load.ops) (live now (marked dead new)) h.index (moved_index moves h.index)
    places =
        moves_make_index s (touches load.ops) (live now (marked dead new)) h.index moves ready.cover
        (λ k p. ((λ is. (has_key p k).1 ((ready.places k p).0 is)), λ g. (ready.places k p).1 ((has_key p k).0 g)))

    come_now : ComeWithRow now dead new
    come_now =
        elim come [
          | inl none ↦ inl none
          | inr row ↦ inr (row.0, row.1, spares row.0 ∙ row.2)
        ]

pub written_is_merge : WrittenIsMerge
written_is_merge s rows begun p files stood wrote none = record {
  same_rows = one_map_same_rows s (live rows (parts_of begun)) (live rows (map all_live files)) p.rows stood (written_stand s rows files p.rows first wrote);
  each_key = ap (map (key_of s)) wrote ∙ rows-tell-keys s p.rows first;
  none = none;
}
  where
    first : KeysStandFirst s p.rows
    first k row is = let h = (stood.same k row).0 is in h.2

pub merge_is_held : MergeIsHeld
merge_is_held s rows h b begun p files dead holds at_held at_book merge apart files_once same = (end_is_held s rows h b begun p (map all_live files) dead (moved_index (kept_moves h.index (parts_of begun) moved) h.index) holds at_held at_book ends, late.1 keys_are)
  where
    now : Files
    now = rows (version b)

    moved : List Moved
    moved = moved_to s (rows (version b)) files

    plan : HoldsPlan s rows (version b) h.current begun p
    plan = subst (λ q. HoldsPlans s rows (version b) h.current (Some begun) q) at_book (subst (λ o. HoldsPlans s rows (version b) h.current o b.plan) at_held holds.plan)

    are_moved : AreMoved s (live now (map all_live files)) moved
    are_moved = (written_are_moved s now files).0

    keys_are : map (λ e. e.key) moved ≡ keys p.rows
    keys_are = (written_are_moved s now files).1 ∙ merge.each_key

    late : AreLate s (live now (map all_live files)) p.touched (found_late h.index (parts_of begun) moved)
        × (map (λ e. e.key) moved ≡ keys p.rows → length (found_late h.index (parts_of begun) moved) ≡ late_of p)
    late = index_finds_late s now begun h.current p (map all_live files) h.index moved holds.exact plan.keeps merge.same_rows are_moved

    index : IsIndex s (live now (map all_live files)) (merged_place moved)
        × ((k : List Value) → moved_index (kept_moves h.index (parts_of begun) moved) h.index k ≡ index_after_end p.touched h.index (merged_place moved) k)
    index = kept_moves_make_index s now begun h.current p.touched (map all_live files) h.index moved holds.exact plan.keeps merge.same_rows are_moved

    no_keys : files ≡ [] → len p.rows ≡ 0
    no_keys e =
        len-entries p.rows ∙ sym (length-map (entries p.rows) (λ (x : List Value × List Value). x.0))
        ∙ ap length (sym merge.each_key ∙ ap (λ ns. map (key_of s) (written now ns)) e)

    no_files : (ns : List ℕ) → map all_live ns ≡ [] → ns ≡ []
    no_files [] e = refl
    no_files (n ∷ ns) e = cc

    ends : EndsPlan s now h begun p (map all_live files) dead (moved_index (kept_moves h.index (parts_of begun) moved) h.index)
    ends = record {
      same_rows = merge.same_rows;
      empty = ((λ e. no_keys (no_files files e)), λ e. ap (map all_live) (merge.none e));
      apart = apart;
      files = files_once;
      late = λ q row is. same q ∙ late.0 q row is;
      placed = merged_place moved;
      exact = index.0;
      places = index.1;
    }

-- a part in which no row is marked stays
unmarked_part : (dead : List Place) (part : Part) → ((p : Place) → stands_in dead p ≡ true → (p.segment == part.file) ≡ false) → marked_part dead part ≡ part
unmarked_part dead part out = ap (λ (rs : List ℕ). record part { dead = with_rows rs part.dead }) (none dead (λ p e. out p e))
  where
    none : (dead : List Place) → ((p : Place) → stands_in dead p ≡ true → (p.segment == part.file) ≡ false) → rows_in_file dead part.file ≡ []
    none [] out = refl
    none (d ∷ ds) out =
        ap (λ b. cond b (d.row ∷ rows_in_file ds part.file) (rows_in_file ds part.file)) (out d (ap (λ b. b || stands_in ds d) (same_place-same d)))
        ∙ none ds (λ p e. out p (or_right (same_place p d) (stands_in ds p) e))
      where
        or_right : (a b : Bool) → b ≡ true → (a || b) ≡ true
        or_right true b e = refl
        or_right false b e = e

or_right : (a b : Bool) → b ≡ true → (a || b) ≡ true
or_right true b e = refl
or_right false b e = e

or_left : (a b : Bool) → a ≡ true → (a || b) ≡ true
or_left true b e = refl
or_left false b e = cc

unmarked_parts : (dead : List Place) (merged parts : List Part) → ((p : Place) → stands_in dead p ≡ true → names merged p.segment ≡ true) → Apart parts merged → marked dead parts ≡ parts
unmarked_parts dead merged [] out apart = refl
unmarked_parts dead merged (part ∷ parts) out apart =
    ap (λ x. x ∷ marked dead parts) (unmarked_part dead part other)
    ∙ ap (λ ps. part ∷ ps) (unmarked_parts dead merged parts out (λ n e. apart n (or_right (part.file == n) (names parts n) e)))
  where
    other : (p : Place) → stands_in dead p ≡ true → (p.segment == part.file) ≡ false
    other p e = go (p.segment == part.file) refl
      where
        go : (b : Bool) → (p.segment == part.file) ≡ b → b ≡ false
        go false f = refl
        go true f =
            let same : p.segment ≡ part.file = eqb-true p.segment part.file f in
            let here : names (part ∷ parts) part.file ≡ true = or_left (part.file == part.file) (names parts part.file) (eq-eqb part.file part.file refl) in
            absurd (clash (names merged part.file) (ap (names merged) (sym same) ∙ out p e) (apart part.file here))

pub only_merged_marked : OnlyMergedMarked
only_merged_marked dead merged r v out apart =
    map-append (marked dead) (one_rowset merged) (drop r v)
    ∙ ap (λ w. w ++ map (marked dead) (drop r v)) (one merged)
    ∙ ap (λ w. one_rowset (marked dead merged) ++ w) (rowsets (drop r v) later)
  where
    one : (parts : List Part) → map (marked dead) (one_rowset parts) ≡ one_rowset (marked dead parts)
    one [] = refl
    one (part ∷ parts) = refl

    later : Apart (parts_of (drop r v)) merged
    later n e = apart n (ap (λ ps. names ps n) (first_and_last r v) ∙ names-append (parts_of (take r v)) (parts_of (drop r v)) n ∙ or_right (names (parts_of (take r v)) n) (names (parts_of (drop r v)) n) e)

    rowsets : (w : Version) → Apart (parts_of w) merged → map (marked dead) w ≡ w
    rowsets [] apart = refl
    rowsets (x ∷ xs) apart =
        ap (λ y. y ∷ map (marked dead) xs) (unmarked_parts dead merged x out (λ n e. apart n (names-append x (parts_of xs) n ∙ or_left (names x n) (names (parts_of xs) n) e)))
        ∙ ap (λ ys. x ∷ ys) (rowsets xs (λ n e. apart n (names-append x (parts_of xs) n ∙ or_right (names x n) (names (parts_of xs) n) e)))

-- a live row is the row of its file
file_row : (rows : Files) (parts : List Part) (p : Place) (row : List Value) → live rows parts p ≡ Some row → slice_get (rows p.segment) p.row ≡ Some row
file_row rows [] p row is = cc
file_row rows (part ∷ parts) p row is = go (part.file == p.segment) refl (is_dead part p.row) is (file_row rows parts p row)
  where
    go : (b : Bool) → (part.file == p.segment) ≡ b → (d : Bool) → cond b (cond d None (slice_get (rows part.file) p.row)) (live rows parts p) ≡ Some row
        → (live rows parts p ≡ Some row → slice_get (rows p.segment) p.row ≡ Some row) → slice_get (rows p.segment) p.row ≡ Some row
    go true e true is more = cc
    go true e false is more = ap (λ n. slice_get (rows n) p.row) (sym (eqb-true part.file p.segment e)) ∙ is
    go false e d is more = more is

pub same_place_same_row : SamePlaceSameRow
same_place_same_row s rows old now m n index next k stood was stands exact same = go (index k) refl
  where
    -- a key without a place has no row
    none : (parts : List Part) (m : Rows) (index : Index) → StandsFor s (live rows parts) m → IsIndex s (live rows parts) index → index k ≡ None → (o : Option (List Value)) → get m k ≡ o → o ≡ None
    none parts m index stands exact e None f = refl
    none parts m index stands exact e (Some row) f = let h = (stands.same k row).0 f in absurd (nothing_same h.0 (sym e ∙ (exact k h.0).1 (row, h.1, h.2)))

    go : (o : Option Place) → index k ≡ o → get n k ≡ get m k
    go None e = none now n next stands exact (same ∙ e) (get n k) refl ∙ sym (none old m index stood was e (get m k) refl)
    go (Some p) e =
        let a = (was k p).0 e in
        let c = (exact k p).0 (same ∙ e) in
        let row : c.0 ≡ a.0 = some_same c.0 a.0 (sym (file_row rows now p c.0 c.1) ∙ file_row rows old p a.0 a.1) in
        (stands.same k c.0).1 (p, c.1, c.2) ∙ ap Some row ∙ sym ((stood.same k a.0).1 (p, a.1, a.2))

pub key_codes_tell : KeyCodesTell
key_codes_tell s valid j k fj fk same = only_key s k valid fk j fj same
