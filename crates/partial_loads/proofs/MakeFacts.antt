-- Files of the rows that changes make hold results of a load.
use Rattle.std.proofs.Common.{◌≡◌, ◌↔◌, ◌⊎◌, inl, inr, refl, ap, sym, subst, ◌∙◌, ℕ, ◌+◌, zero, suc, List, [], ◌∷◌, ◌++◌, length, map, Option, Some, None, option_to_list, Bool as Truth, true, false, cond, ◌||◌, slice_get, T}
use Rattle.std.specs.List.{AllByRecursion}
use Rattle.std.specs.Cmp.{eq_by_cmp_equiv}
use Rattle.std.specs.Ordering.{eq_by_cmp, is_lt, ordering_reverse}
use Rattle.std.specs.declared.cmp.Ordering.{Ordering}
use Rattle.std.specs.declared.cmp.Ordering.TheVariants.{Less, Equal, Greater}
use Rattle.std.specs.FinMap.{get}
use Rattle.std.proofs.lemmas.Map.Views.{tells_apart}
use Rattle.pk_values.specs.Order.{key_cmp}
use Rattle.pk_values.specs.OrderFacts.{key_total, key_exact}
use Rattle.pk_values.specs.Schemas.{Layout, key_of}
use Rattle.pk_values.specs.declared.cells.Value.{Value}
use Rattle.pk_model.specs.declared.calls.Load.{Load}
use Rattle.pk_model.specs.Laws.{KeysStandFirst}
use Rattle.pk_model.specs.Lawful.{IsLawful}
use Rattle.pk_model.specs.Tables.{Rows, after}
use Rattle.pk_model.proofs.LawfulLaws.{lawful-keeps-keys}
use Rattle.pk_model.proofs.RunLaws as run
use Rattle.rowsets.specs.Live.{Live, live, is_among, HasKey, HasRow}
use Rattle.index_level0.specs.declared.place.Place.{Place}
use Rattle.rowsets.specs.Marks.{same_place, stands_in}
use Rattle.rowsets.specs.Ending.{Moved}
use Rattle.rowsets.specs.Indexing.{merged_place}
use Rattle.rowsets.specs.Merging.{all_live, moved_to, IsListed}
use Rattle.rowsets.proofs.WrittenFacts.{written_are_live, written_are_moved, at_last, split}
use Rattle.partial_loads.specs.declared.folds.Folded.{Folded}
use Rattle.partial_loads.specs.declared.changes.KeyChange.{KeyChange}
use Rattle.partial_loads.specs.Folds.{apply, change_at}
use Rattle.partial_loads.specs.Folded.{change_in, folded_keys, rise_strictly}
use Rattle.partial_loads.specs.Making.{made_rows, HaveChanges, MadeAreResults, FoldedAreResults, FoldedHaveChanges, StoodKeysFirst, MadeOnce, WrittenIsIndexed, RisingOnce, OneKeyList}
use Rattle.partial_loads.specs.Moves.{NoneTwice}
use Rattle.partial_loads.proofs.MoveFacts.{same_place-exact}
use Rattle.partial_loads.proofs.FoldFacts.{load_is_changes}
use Rattle.partial_loads.proofs.FoldedFacts.{not-among}

same-key : (a b : List Value) → eq_by_cmp key_cmp a b ≡ true → a ≡ b
same-key a b e = tells_apart key_exact a b e

listed-last : (xs ys : List (List Value)) (row : List Value) → IsListed ys row → IsListed (xs ++ ys) row
listed-last xs ys row h = (length xs + h.0, at_last xs ys h.0 ∙ h.1)

listed-one : (o : Option (List Value)) (ys : List (List Value)) (row : List Value) → o ≡ Some row → IsListed (option_to_list o ++ ys) row
listed-one None ys row e = cc
listed-one (Some r) ys row e = (0, e)

one-listed : (o : Option (List Value)) (row : List Value) → IsListed (option_to_list o) row → o ≡ Some row
one-listed None row h = cc h.1
one-listed (Some r) row h = go h.0 h.1
  where
    go : (i : ℕ) → slice_get (r ∷ []) i ≡ Some row → Some r ≡ Some row
    go zero e = e
    go (suc i) e = cc

parted : (xs ys : List (List Value)) (row : List Value) → IsListed (xs ++ ys) row → IsListed xs row ⊎ IsListed ys row
parted xs ys row h = elim (split xs ys h.0 row h.1) [ inl e ↦ inl (h.0, e) | inr e ↦ inr e ]

module _ (s : Layout) (load : Load) (m : Rows) (lawful : IsLawful s load) where
  -- a change makes what the load gives
  made : (f : Folded) → f.change ≡ change_at load.given None load.ops f.key → apply s load.given None f.key f.change (get m f.key) ≡ get (after s load m) f.key
  made f e = ap (λ c. apply s load.given None f.key c (get m f.key)) e ∙ sym (load_is_changes s load m f.key lawful)

  listed : (fs : List Folded) (k row : List Value) → HaveChanges load fs → is_among (folded_keys fs) k ≡ true → get (after s load m) k ≡ Some row → IsListed (made_rows s load.given m fs) row
  listed [] k row have h is = cc
  listed (f ∷ fs) k row have h is = go (listed fs k row have.1) (eq_by_cmp key_cmp k f.key) refl h
    where
      go : (is_among (folded_keys fs) k ≡ true → get (after s load m) k ≡ Some row → IsListed (made_rows s load.given m fs) row)
          → (t : Truth) → eq_by_cmp key_cmp k f.key ≡ t → (t || is_among (folded_keys fs) k) ≡ true
          → IsListed (option_to_list (apply s load.given None f.key f.change (get m f.key)) ++ made_rows s load.given m fs) row
      go more true e h =
          listed-one (apply s load.given None f.key f.change (get m f.key)) (made_rows s load.given m fs) row
          (made f have.0 ∙ ap (get (after s load m)) (sym (same-key k f.key e)) ∙ is)
      go more false e h = listed-last (option_to_list (apply s load.given None f.key f.change (get m f.key))) (made_rows s load.given m fs) row (more h is)

  of_listed : (fs : List Folded) (row : List Value) → HaveChanges load fs → IsListed (made_rows s load.given m fs) row → (k : List Value) × (is_among (folded_keys fs) k ≡ true) × (get (after s load m) k ≡ Some row)
  of_listed [] row have h = cc h.1
  of_listed (f ∷ fs) row have h = go (of_listed fs row have.1) (parted (option_to_list (apply s load.given None f.key f.change (get m f.key))) (made_rows s load.given m fs) row h)
    where
      or_true : (a : Truth) → (a || true) ≡ true
      or_true true = refl
      or_true false = refl

      go : (IsListed (made_rows s load.given m fs) row → (k : List Value) × (is_among (folded_keys fs) k ≡ true) × (get (after s load m) k ≡ Some row))
          → IsListed (option_to_list (apply s load.given None f.key f.change (get m f.key))) row ⊎ IsListed (made_rows s load.given m fs) row
          → (k : List Value) × (is_among (folded_keys (f ∷ fs)) k ≡ true) × (get (after s load m) k ≡ Some row)
      go more (inl here) = (
        f.key,
        ap (λ b. b || is_among (folded_keys fs) f.key) ((eq_by_cmp_equiv key_total).refl f.key),
        sym (made f have.0) ∙ one-listed (apply s load.given None f.key f.change (get m f.key)) row here,
      )
      go more (inr later) =
          let found = more later in
          (found.0, ap (λ b. eq_by_cmp key_cmp found.0 f.key || b) found.1 ∙ or_true (eq_by_cmp key_cmp found.0 f.key), found.2)

pub made_are_results : MadeAreResults
made_are_results s load m rows files fs lawful first have is = record { results = results; named = named }
  where
    stands : KeysStandFirst s (after s load m)
    stands = lawful-keeps-keys s load m lawful first

    of_row : (k row : List Value) → HasRow s (live rows (map all_live files)) k row → (is_among (folded_keys fs) k ≡ true) × (get (after s load m) k ≡ Some row)
    of_row k row h =
        let lives = (written_are_live s rows files k row).0 h in
        let found = of_listed s load m lawful fs row have (subst (λ xs. IsListed xs row) is lives.0) in
        let same : found.0 ≡ k = sym (lawful-keeps-keys s load m lawful first found.0 row found.2) ∙ lives.1 in
        (ap (is_among (folded_keys fs)) (sym same) ∙ found.1, ap (get (after s load m)) (sym same) ∙ found.2)

    results : (k row : List Value) → is_among (folded_keys fs) k ≡ true → (get (after s load m) k ≡ Some row) ↔ HasRow s (live rows (map all_live files)) k row
    results k row among = (
      λ got. (written_are_live s rows files k row).1 (subst (λ xs. IsListed xs row) (sym is) (listed s load m lawful fs k row have among got), lawful-keeps-keys s load m lawful first k row got),
      λ h. (of_row k row h).1,
    )

    named : (p : _) (k : List Value) → HasKey s (live rows (map all_live files)) p k → is_among (folded_keys fs) k ≡ true
    named p k h = (of_row k h.0 (p, h.1, h.2)).0

-- rising keys tell their changes
each-change : (Q : List Value → KeyChange) (fs : List Folded) → T (rise_strictly (folded_keys fs)) → ((k : List Value) → is_among (folded_keys fs) k ≡ true → change_in fs k ≡ Q k)
    → AllByRecursion (λ f. f.change ≡ Q f.key) fs
each-change Q [] rise h = tt
each-change Q (f ∷ fs) rise h = (
  ap (λ b. cond b f.change (change_in fs f.key)) (sym itself) ∙ h f.key (ap (λ b. b || is_among (folded_keys fs) f.key) itself),
  each-change Q fs (tail (folded_keys fs) rise) (λ k among. other k among (eq_by_cmp key_cmp k f.key) refl),
)
  where
    itself : eq_by_cmp key_cmp f.key f.key ≡ true
    itself = (eq_by_cmp_equiv key_total).refl f.key

    tail : (ks : List (List Value)) → T (rise_strictly (f.key ∷ ks)) → T (rise_strictly ks)
    tail [] t = tt
    tail (k ∷ ks) t = run.second (is_lt (key_cmp f.key k)) (rise_strictly (k ∷ ks)) t

    clash : (b : Truth) → b ≡ true → b ≡ false → ⊥
    clash b e g = cc (sym e ∙ g)

    or_true : (a b : Truth) → b ≡ true → (a || b) ≡ true
    or_true true b e = refl
    or_true false b e = e

    other : (k : List Value) → is_among (folded_keys fs) k ≡ true → (t : Truth) → eq_by_cmp key_cmp k f.key ≡ t → change_in fs k ≡ Q k
    other k among true e =
        let same : k ≡ f.key = same-key k f.key e in
        absurd (clash (is_among (folded_keys fs) f.key) (ap (is_among (folded_keys fs)) (sym same) ∙ among) (not-among f.key (folded_keys fs) rise))
    other k among false e =
        ap (λ b. cond b f.change (change_in fs k)) (sym e) ∙ h k (or_true (eq_by_cmp key_cmp k f.key) (is_among (folded_keys fs) k) among)

pub folded_have_changes : FoldedHaveChanges
folded_have_changes s load folded are = each-change (λ k. change_at load.given None load.ops k) folded are.rise (λ k among. are.changes k)

pub folded_are_results : FoldedAreResults
folded_are_results s load m rows files folded lawful first are is =
    let some = made_are_results s load m rows files folded lawful first (folded_have_changes s load folded are) is in
    record {
      results = λ k row touched. some.results k row (are.named k ∙ touched);
      named = λ p k h. sym (are.named k) ∙ some.named p k h;
    }

pub stood_keys_first : StoodKeysFirst
stood_keys_first s rows m stands k row is = ((stands.same k row).0 is).2

pub rising_once : RisingOnce
rising_once [] h = tt
rising_once (k ∷ ks) h = (not-among k ks h, rising_once ks (rest ks h))
  where
    rest : (ks : List (List Value)) → T (rise_strictly (k ∷ ks)) → T (rise_strictly ks)
    rest [] t = tt
    rest (j ∷ ks) t = run.second (is_lt (key_cmp k j)) (rise_strictly (j ∷ ks)) t

-- a key that isn't among those that change isn't one of a made row
not-made : (s : Layout) (load : Load) (m : Rows) (lawful : IsLawful s load) (first : KeysStandFirst s m) (fs : List Folded) (k : List Value) → HaveChanges load fs
    → is_among (folded_keys fs) k ≡ false → is_among (map (key_of s) (made_rows s load.given m fs)) k ≡ false
not-made s load m lawful first [] k have h = refl
not-made s load m lawful first (f ∷ fs) k have h =
    go (apply s load.given None f.key f.change (get m f.key)) refl (eq_by_cmp key_cmp k f.key) refl h (not-made s load m lawful first fs k have.1)
  where
    go : (o : Option (List Value)) → apply s load.given None f.key f.change (get m f.key) ≡ o → (b : Truth) → eq_by_cmp key_cmp k f.key ≡ b → (b || is_among (folded_keys fs) k) ≡ false
        → (is_among (folded_keys fs) k ≡ false → is_among (map (key_of s) (made_rows s load.given m fs)) k ≡ false)
        → is_among (map (key_of s) (option_to_list o ++ made_rows s load.given m fs)) k ≡ false
    go o is true e h more = cc
    go None is false e h more = more h
    go (Some row) is false e h more =
        let key : key_of s row ≡ f.key = lawful-keeps-keys s load m lawful first f.key row (sym (made s load m lawful f have.0) ∙ is) in
        ap (λ b. b || is_among (map (key_of s) (made_rows s load.given m fs)) k) (ap (eq_by_cmp key_cmp k) key ∙ e) ∙ more h

pub made_once : MadeOnce
made_once s load m [] lawful first have once = tt
made_once s load m (f ∷ fs) lawful first have once =
    go (apply s load.given None f.key f.change (get m f.key)) refl (made_once s load m fs lawful first have.1 once.1)
  where
    go : (o : Option (List Value)) → apply s load.given None f.key f.change (get m f.key) ≡ o → NoneTwice (map (key_of s) (made_rows s load.given m fs))
        → NoneTwice (map (key_of s) (option_to_list o ++ made_rows s load.given m fs))
    go None is more = more
    go (Some row) is more =
        let key : key_of s row ≡ f.key = lawful-keeps-keys s load m lawful first f.key row (sym (made s load m lawful f have.0) ∙ is) in
        (ap (is_among (map (key_of s) (made_rows s load.given m fs))) key ∙ not-made s load m lawful first fs f.key have.1 once.0, more)

-- the place of a row among those written
module _ (s : Layout) (rows : Live) where
  some_same : {X : Type 0} (x y : X) → Some x ≡ Some y → x ≡ y
  some_same x y e = cc

  found_at : (es : List Moved) (k : List Value) (p : Place) → AllByRecursion (λ e. HasKey s rows e.place e.key) es → merged_place es k ≡ Some p → HasKey s rows p k
  found_at [] k p each is = cc
  found_at (e ∷ es) k p each is = go (eq_by_cmp key_cmp k e.key) refl is (found_at es k p each.1)
    where
      go : (b : Truth) → eq_by_cmp key_cmp k e.key ≡ b → cond b (Some e.place) (merged_place es k) ≡ Some p → (merged_place es k ≡ Some p → HasKey s rows p k) → HasKey s rows p k
      go true same is more =
          let has = each.0 in
          (has.0, ap rows (sym (some_same e.place p is)) ∙ has.1, has.2 ∙ sym (same-key k e.key same))
      go false same is more = more is

  no_place : (es : List Moved) (k : List Value) → is_among (map (λ e. e.key) es) k ≡ false → merged_place es k ≡ None
  no_place [] k h = refl
  no_place (e ∷ es) k h = go (eq_by_cmp key_cmp k e.key) h (no_place es k)
    where
      go : (b : Truth) → (b || is_among (map (λ e. e.key) es) k) ≡ false → (is_among (map (λ e. e.key) es) k ≡ false → merged_place es k ≡ None) → cond b (Some e.place) (merged_place es k) ≡ None
      go true h more = cc
      go false h more = more h

  one_key : (p : Place) (j k : List Value) → HasKey s rows p j → HasKey s rows p k → j ≡ k
  one_key p j k h g = sym h.2 ∙ ap (key_of s) (some_same h.0 g.0 (sym h.1 ∙ g.1)) ∙ g.2

  to_place : (es : List Moved) (k : List Value) (p : Place) → NoneTwice (map (λ e. e.key) es) → AllByRecursion (λ e. HasKey s rows e.place e.key) es
      → stands_in (map (λ e. e.place) es) p ≡ true → HasKey s rows p k → merged_place es k ≡ Some p
  to_place [] k p once each h has = cc
  to_place (e ∷ es) k p once each h has = go (same_place p e.place) refl h (to_place es k p once.1 each.1)
    where
      here : e.place ≡ p → cond (eq_by_cmp key_cmp k e.key) (Some e.place) (merged_place es k) ≡ Some p
      here same =
          let held = each.0 in
          let key : e.key ≡ k = one_key p e.key k (held.0, ap rows (sym same) ∙ held.1, held.2) has in
          ap (λ b. cond b (Some e.place) (merged_place es k)) (ap (eq_by_cmp key_cmp k) key ∙ (eq_by_cmp_equiv key_total).refl k) ∙ ap Some same

      later : merged_place es k ≡ Some p → (b : Truth) → eq_by_cmp key_cmp k e.key ≡ b → cond b (Some e.place) (merged_place es k) ≡ Some p
      later is false f = is
      later is true f =
          let none : merged_place es k ≡ None = no_place es k (ap (is_among (map (λ e. e.key) es)) (same-key k e.key f) ∙ once.0) in
          cc

      go : (b : Truth) → same_place p e.place ≡ b → (b || stands_in (map (λ e. e.place) es) p) ≡ true → (stands_in (map (λ e. e.place) es) p ≡ true → HasKey s rows p k → merged_place es k ≡ Some p)
          → cond (eq_by_cmp key_cmp k e.key) (Some e.place) (merged_place es k) ≡ Some p
      go true same h more = here (same_place-exact p e.place same)
      go false same h more = later (more h has) (eq_by_cmp key_cmp k e.key) refl

pub written_is_indexed : WrittenIsIndexed
written_is_indexed s rows files once k p =
    let moved = written_are_moved s rows files in
    let keys_once : NoneTwice (map (λ e. e.key) (moved_to s rows files)) = subst NoneTwice (sym moved.1) once in (
      found_at s (live rows (map all_live files)) (moved_to s rows files) k p moved.0.each,
      λ has. to_place s (live rows (map all_live files)) (moved_to s rows files) k p keys_once moved.0.each (moved.0.all p has.0 has.1) has,
    )

-- rising keys with the same members
rest_rise : (k : List Value) (ks : List (List Value)) → T (rise_strictly (k ∷ ks)) → T (rise_strictly ks)
rest_rise k [] t = tt
rest_rise k (j ∷ ks) t = run.second (is_lt (key_cmp k j)) (rise_strictly (j ∷ ks)) t

first_among : (k : List Value) (ks : List (List Value)) → is_among (k ∷ ks) k ≡ true
first_among k ks = ap (λ b. b || is_among ks k) ((eq_by_cmp_equiv key_total).refl k)

apart_truth : (b : Truth) → b ≡ true → b ≡ false → ⊥
apart_truth b e f = cc (sym e ∙ f)

pub one_key_list : OneKeyList
one_key_list [] [] h g same = refl
one_key_list [] (y ∷ ys) h g same = absurd (apart_truth (is_among (y ∷ ys) y) (first_among y ys) (sym (same y)))
one_key_list (x ∷ xs) [] h g same = absurd (apart_truth (is_among (x ∷ xs) x) (first_among x xs) (same x))
one_key_list (x ∷ xs) (y ∷ ys) h g same = go (key_cmp x y) refl (one_key_list xs ys (rest_rise x xs h) (rest_rise y ys g))
  where
    less : (a b : List Value) (ks : List (List Value)) → key_cmp a b ≡ Less → T (rise_strictly (b ∷ ks)) → is_among (b ∷ ks) a ≡ false
    less a b ks e r = not-among a (b ∷ ks) (run.both (is_lt (key_cmp a b)) (rise_strictly (b ∷ ks)) (subst (λ o. T (is_lt o)) (sym e) tt) r)

    tails : x ≡ y → (k : List Value) (b : Truth) → eq_by_cmp key_cmp k x ≡ b → is_among xs k ≡ is_among ys k
    tails first k true e =
        let here : k ≡ x = same-key k x e in
        ap (is_among xs) here ∙ not-among x xs h ∙ sym (ap (is_among ys) (here ∙ first) ∙ not-among y ys g)
    tails first k false e =
        sym (ap (λ b. b || is_among xs k) e) ∙ same k ∙ ap (λ b. b || is_among ys k) (ap (eq_by_cmp key_cmp k) (sym first) ∙ e)

    go : (o : Ordering) → key_cmp x y ≡ o → (((k : List Value) → is_among xs k ≡ is_among ys k) → xs ≡ ys) → x ∷ xs ≡ y ∷ ys
    go Less e more = absurd (apart_truth (is_among (x ∷ xs) x) (first_among x xs) (same x ∙ less x y ys e g))
    go Greater e more =
        let back : key_cmp y x ≡ Less = key_total.antisymm y x ∙ ap ordering_reverse e in
        absurd (apart_truth (is_among (y ∷ ys) y) (first_among y ys) (sym (same y) ∙ less y x xs back h))
    go Equal e more =
        let first : x ≡ y = key_exact x y e in
        ap (λ k. k ∷ xs) first ∙ ap (λ ks. y ∷ ks) (more (λ k. tails first k (eq_by_cmp key_cmp k x) refl))
