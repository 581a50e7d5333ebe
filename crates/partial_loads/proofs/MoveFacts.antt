-- A key that didn't move has the row that it had.
use Rattle.std.proofs.Common.{◌≡◌, refl, ap, sym, subst, ◌∙◌, suc, ◌≤◌, List, [], ◌∷◌, length, arith, Option, Some, None, is_some, option_to_list, Bool as Truth, true, false, cond, not, ◌&&◌, ◌||◌, ◌==◌, slice_get, length-append}
use Rattle.std.specs.List.{filter, AllByRecursion}
use Rattle.std.specs.Ordering.{eq_by_cmp}
use Rattle.std.proofs.lemmas.List.Sums.{length-filter}
use Rattle.std.proofs.lemmas.Map.Views.{exact_unsigned_eq, tells_apart}
use Rattle.std.specs.FinMap.{get}
use Rattle.pk_values.specs.Order.{key_cmp}
use Rattle.pk_values.specs.OrderFacts.{key_exact}
use Rattle.pk_values.specs.Schemas.{Layout, key_of}
use Rattle.pk_values.specs.declared.cells.Value.{Value}
use Rattle.pk_model.specs.Laws.{result_for}
use Rattle.pk_model.specs.Tables.{Rows}
use Rattle.pk_model.proofs.LoadLaws.{one_result_per_key}
use Rattle.index_level0.specs.declared.place.Place.{Place}
use Rattle.rowsets.specs.Live.{Part, Version, parts_of, Files, Live, live, is_dead, is_among, HasKey, StandsFor, Index, IsIndex}
use Rattle.rowsets.specs.Marks.{same_place}
use Rattle.rowsets.specs.Changes.{AreOldRows}
use Rattle.rowsets.specs.Indexing.{places_of}
use Rattle.rowsets.specs.Books.{held_at}
use Rattle.rowsets.proofs.LiveFacts.{live-named}
use Rattle.rowsets.proofs.IndexFacts.{places_are_old_rows}
use Rattle.rowsets.proofs.BookFacts.{kept_are_held}
use Rattle.partial_loads.specs.Moves.{Located, IsPlaceOf, stays_live, has_moved, StillStands, SharedPlace, ReadIsRow, UnmovedKeepsRow, UnmovedKeepsResult, keys_of, place_in, EachIsLocated, PlacesTellAbsent, moved, MovedAre, NoneTwice, MovedOnce, MovedAreCounted, FewReads, UnmovedUnread, ReadsAlike, HeldIsMeanwhile}

pub clash : (b : Truth) → b ≡ true → b ≡ false → ⊥
clash b e f = cc (sym e ∙ f)

pub some_same : {X : Type 0} (x y : X) → Some x ≡ Some y → x ≡ y
some_same x y e = cc

none_some : {X : Type 0} (x : X) (o : Option X) → o ≡ None → o ≡ Some x → ⊥
none_some x o e f = cc (sym e ∙ f)

-- a live row is the file's row at its number
live-row : (rows : Files) (parts : List Part) (p : Place) (row : List Value) → live rows parts p ≡ Some row → slice_get (rows p.segment) p.row ≡ Some row
live-row rows [] p row is = cc
live-row rows (part ∷ parts) p row is = go (live-row rows parts p row) (part.file == p.segment) (is_dead part p.row) refl is
  where
    go : (live rows parts p ≡ Some row → slice_get (rows p.segment) p.row ≡ Some row)
        → (b d : Truth) → (part.file == p.segment) ≡ b → cond b (cond d None (slice_get (rows part.file) p.row)) (live rows parts p) ≡ Some row → slice_get (rows p.segment) p.row ≡ Some row
    go more true true e is = cc
    go more true false e is = ap (λ f. slice_get (rows f) p.row) (sym (exact_unsigned_eq part.file p.segment e)) ∙ is
    go more false d e is = more is

pub shared_place : SharedPlace
shared_place past rows some others p row other alike is was =
    some_same row other (sym (live-row past some p row is) ∙ ap (λ f. slice_get f p.row) (sym alike) ∙ live-row rows others p other was)

-- a key with no live row has no row in the map
no-row : (s : Layout) (rows : Live) (m : Rows) (k : List Value) → StandsFor s rows m → ((p : Place) → HasKey s rows p k → ⊥) → get m k ≡ None
no-row s rows m k stands none = go (get m k) refl
  where
    go : (o : Option (List Value)) → get m k ≡ o → get m k ≡ None
    go None e = e
    go (Some row) e = let h = (stands.same k row).0 e in absurd (none h.0 (row, h.1, h.2))

pub no-place : (s : Layout) (rows : Live) (m : Rows) (k : List Value) (place : Option Place) → StandsFor s rows m → IsPlaceOf s rows k place → place ≡ None → get m k ≡ None
no-place s rows m k place stands at none = no-row s rows m k stands (λ p h. none_some p place none ((at p).1 h))

pub read_is_row : ReadIsRow
read_is_row s old was k None stands at = sym (no-place s old was k None stands at refl)
read_is_row s old was k (Some p) stands at =
    let h = (at p).0 refl in
    h.1 ∙ sym ((stands.same k h.0).1 (p, h.1, h.2))

pub same_place-exact : (p q : Place) → same_place p q ≡ true → q ≡ p
same_place-exact p q h = go (q.segment == p.segment) (q.row == p.row) refl refl h
  where
    go : (a b : Truth) → (q.segment == p.segment) ≡ a → (q.row == p.row) ≡ b → (a && b) ≡ true → q ≡ p
    go true true e f h = λ i. record { segment = exact_unsigned_eq q.segment p.segment e i; row = exact_unsigned_eq q.row p.row f i }
    go true false e f h = cc
    go false b e f h = cc

not-both : (a b : Truth) → not (a && b) ≡ false → (a ≡ true) × (b ≡ true)
not-both true true h = (refl, refl)
not-both true false h = cc
not-both false b h = cc

is_some-row : (o : Option (List Value)) → is_some o ≡ true → (row : List Value) × (o ≡ Some row)
is_some-row None h = cc
is_some-row (Some row) h = (row, refl)

pub unmoved_keeps_row : UnmovedKeepsRow
unmoved_keeps_row s past was kept rows current index now k place meanwhile absent still = go place (index k) absent refl still
  where
    go : (place o : Option Place) → (place ≡ None → get was k ≡ None) → index k ≡ o → has_moved (stays_live past kept) place o ≡ false → get now k ≡ get was k
    go None None absent e h =
        no-row s (live rows (parts_of current)) now k meanwhile.stands (λ p has. none_some p (index k) e ((meanwhile.exact k p).1 has)) ∙ sym (absent refl)
    go None (Some q) absent e h = cc
    go (Some p) None absent e h = cc
    go (Some p) (Some q) absent e h =
        let both = not-both (same_place p q) (stays_live past kept p) h in
        let here = (meanwhile.exact k p).0 (e ∙ ap Some (same_place-exact p q both.0)) in
        (meanwhile.stands.same k here.0).1 (p, here.1, here.2) ∙ sym (there kept meanwhile.stays meanwhile.alike both.1 here.0 here.1 here.2)
      where
        there : (kept : Option Version) → StillStands s past kept was → ReadsAlike past kept rows current → stays_live past kept p ≡ true
            → (row : List Value) → live rows (parts_of current) p ≡ Some row → key_of s row ≡ k → get was k ≡ Some row
        there None stays alike lives row is key = cc
        there (Some v) stays alike lives row is key =
            let found = is_some-row (live past (parts_of v) p) lives in
            let reads : rows p.segment ≡ past p.segment = alike p.segment (live-named past (parts_of v) p found.0 found.1) (live-named rows (parts_of current) p row is) in
            let same : found.0 ≡ row = shared_place past rows (parts_of v) (parts_of current) p found.0 row reads found.1 is in
            (stays.same k row).1 (p, found.1 ∙ ap Some same, key)

pub unmoved_keeps_result : UnmovedKeepsResult
unmoved_keeps_result s load past was kept rows current index now k place meanwhile absent still =
    one_result_per_key s load now k
    ∙ ap (result_for s load.given load.ops k) (unmoved_keeps_row s past was kept rows current index now k place meanwhile absent still)
    ∙ sym (one_result_per_key s load was k)

-- an entry tells its own key's place
place-each : (s : Layout) (old : Live) (located : List Located) (k : List Value) → AllByRecursion (λ e. IsPlaceOf s old e.key e.place) located
    → is_among (keys_of located) k ≡ true → IsPlaceOf s old k (place_in located k)
place-each s old [] k places h = cc
place-each s old (e ∷ es) k places h = go (place-each s old es k places.1) (eq_by_cmp key_cmp k e.key) refl h
  where
    here : k ≡ e.key → IsPlaceOf s old k e.place
    here same p = (
      λ is. let h = (places.0 p).0 is in (h.0, h.1, h.2 ∙ sym same),
      λ h. (places.0 p).1 (h.0, h.1, h.2 ∙ same),
    )

    go : (is_among (keys_of es) k ≡ true → IsPlaceOf s old k (place_in es k)) → (b : Truth) → eq_by_cmp key_cmp k e.key ≡ b → (b || is_among (keys_of es) k) ≡ true
        → IsPlaceOf s old k (cond b e.place (place_in es k))
    go more true is h = here (tells_apart key_exact k e.key is)
    go more false is h = more h

pub each_is_located : EachIsLocated
each_is_located s touched old located once named each =
    record { once = once; named = named; places = λ k touches. place-each s old located k each (named k ∙ touches) }

pub places_tell_absent : PlacesTellAbsent
places_tell_absent s touched old was located stands are =
    record { once = are.once; named = are.named; absent = λ k touches none. no-place s old was k (place_in located k) stands (are.places k touches) none }

and_false : (b : Truth) → (b && false) ≡ false
and_false true = refl
and_false false = refl

-- a filter loses keys and gains none
pub not-gained : (test : Located → Truth) (es : List Located) (k : List Value) → is_among (keys_of es) k ≡ false → is_among (keys_of (filter test es)) k ≡ false
not-gained test [] k h = refl
not-gained test (e ∷ es) k h = go (test e) (eq_by_cmp key_cmp k e.key) refl h (not-gained test es k)
  where
    go : (t b : Truth) → eq_by_cmp key_cmp k e.key ≡ b → (b || is_among (keys_of es) k) ≡ false → (is_among (keys_of es) k ≡ false → is_among (keys_of (filter test es)) k ≡ false)
        → is_among (keys_of (cond t (e ∷ filter test es) (filter test es))) k ≡ false
    go t true is h more = cc
    go true false is h more = ap (λ b. b || is_among (keys_of (filter test es)) k) is ∙ more h
    go false false is h more = more h

pub moved_are : MovedAre
moved_are [] stays index k once = refl
moved_are (e ∷ es) stays index k once =
    go (has_moved stays e.place (index e.key)) (eq_by_cmp key_cmp k e.key) refl refl (moved_are es stays index k once.1)
  where
    agree : k ≡ e.key → has_moved stays e.place (index k) ≡ has_moved stays e.place (index e.key)
    agree same = ap (λ q. has_moved stays e.place (index q)) same

    gone : k ≡ e.key → is_among (keys_of (moved stays index es)) k ≡ false
    gone same = not-gained (λ e. has_moved stays e.place (index e.key)) es k (ap (is_among (keys_of es)) same ∙ once.0)

    go : (t b : Truth) → has_moved stays e.place (index e.key) ≡ t → eq_by_cmp key_cmp k e.key ≡ b
        → is_among (keys_of (moved stays index es)) k ≡ (is_among (keys_of es) k && has_moved stays (place_in es k) (index k))
        → is_among (keys_of (cond t (e ∷ moved stays index es) (moved stays index es))) k ≡ ((b || is_among (keys_of es) k) && has_moved stays (cond b e.place (place_in es k)) (index k))
    go true true is same more = ap (λ b. b || is_among (keys_of (moved stays index es)) k) same ∙ sym (agree (tells_apart key_exact k e.key same) ∙ is)
    go true false is same more = ap (λ b. b || is_among (keys_of (moved stays index es)) k) same ∙ more
    go false true is same more = gone (tells_apart key_exact k e.key same) ∙ sym (agree (tells_apart key_exact k e.key same) ∙ is)
    go false false is same more = more

once-filtered : (test : Located → Truth) (es : List Located) → NoneTwice (keys_of es) → NoneTwice (keys_of (filter test es))
once-filtered test [] h = tt
once-filtered test (e ∷ es) h = go (test e) (once-filtered test es h.1)
  where
    go : (t : Truth) → NoneTwice (keys_of (filter test es)) → NoneTwice (keys_of (cond t (e ∷ filter test es) (filter test es)))
    go true more = (not-gained test es e.key h.0, more)
    go false more = more

pub moved_once : MovedOnce
moved_once located stays index h = once-filtered (λ e. has_moved stays e.place (index e.key)) located h

pub moved_are_counted : MovedAreCounted
moved_are_counted located stays index = length-filter (λ e. has_moved stays e.place (index e.key)) located

one-at-most : {X : Type 0} (o : Option X) → length (option_to_list o) ≤ 1
one-at-most None = omega arith
one-at-most (Some x) = omega arith

places-few : (index : Index) (ks : List (List Value)) → length (places_of index ks) ≤ length ks
places-few index [] = omega arith
places-few index (k ∷ ks) =
    let more = places-few index ks in
    let one = one-at-most (index k) in
    omega (arith, length-append (option_to_list (index k)) (places_of index ks))

length-keys : (es : List Located) → length (keys_of es) ≡ length es
length-keys [] = refl
length-keys (e ∷ es) = ap suc (length-keys es)

pub few_reads : FewReads
few_reads index located stays =
    let some = places-few index (keys_of (moved stays index located)) in
    let keys = length-keys (moved stays index located) in
    let count = moved_are_counted located stays index in
    omega arith

-- an index finds the old rows of some keys, and no other place
pub places_are_old : (s : Layout) (rows : Live) (index : Index) (ks : List (List Value)) → IsIndex s rows index → AreOldRows s ks rows (places_of index ks)
places_are_old s rows index ks exact =
    places_are_old_rows s ks ks rows index exact (record { only = λ k e. e; all = λ k e f. absurd (clash (is_among ks k) e f) })

pub unmoved_unread : UnmovedUnread
unmoved_unread s rows located stays index k p exact once still has =
    places_are_old s rows index (keys_of (moved stays index located)) exact p k has
    ∙ moved_are located stays index k once ∙ ap (λ b. is_among (keys_of located) k && b) still ∙ and_false (is_among (keys_of located) k)

pub held_is_meanwhile : HeldIsMeanwhile
held_is_meanwhile s rows h b v was holds had alike = record {
  stays = go (held_at h b.floor v) refl;
  alike = alike;
  stands = holds.current;
  exact = holds.exact;
}
  where
    go : (o : Option Version) → held_at h b.floor v ≡ o → StillStands s (rows v) o was
    go None e = tt
    go (Some w) e =
        let has = (kept_are_held s rows h b v holds).1 w e in
        let at = (kept_are_held s rows h b v holds).0 has.0 has.1 in
        let same : at.0 ≡ w = some_same at.0 w (sym at.1 ∙ e) in
        subst (λ m. StandsFor s (live (rows v) (parts_of w)) m) (had has.0 has.1) (subst (λ u. StandsFor s (live (rows v) (parts_of u)) has.0) same at.2)
