-- The index of live rows: their keys and places, and the codes of these keys.
use Rattle.std.proofs.Common.{◌≡◌, ◌⊎◌, inl, inr, refl, ap, sym, subst, ◌∙◌, ℕ, zero, suc, ◌+◌, List, [], ◌∷◌, ◌++◌, map, slice_get, Option, Some, None, Bool, true, false, ◌||◌, ◌==◌, cond, eq-eqb, arith}
use Rattle.std.specs.List.{list_any, AllByRecursion}
use Rattle.std.specs.Ordering.{eq_by_cmp}
use Rattle.std.specs.Cmp.{eq_by_cmp_equiv}
use Rattle.std.specs.FinMap.{get, empty, get-empty}
use Rattle.std.proofs.lemmas.List.{map-append}
use Rattle.std.proofs.lemmas.List.Folds.{list_any-append}
use Rattle.std.proofs.lemmas.Map.Views.{exact_unsigned_eq, tells_apart}
use Rattle.pk_values.specs.Order.{key_cmp}
use Rattle.pk_values.specs.OrderFacts.{key_total, key_exact}
use Rattle.pk_values.specs.SchemaFacts.{fits_all-take}
use Rattle.pk_values.specs.Schemas.{Layout, fits_key, key_of}
use Rattle.pk_values.specs.declared.cells.Value.{Value}
use Rattle.key_code.specs.KeyCode.{key_code}
use Rattle.pk_model.specs.Tables.{Rows}
use Rattle.index_level0.specs.declared.place.Place.{Place}
use Rattle.rowsets.specs.Live.{Part, Files, Live, live, is_dead, names, FilesOnce, HasKey, IsIndex, StandsFor}
use Rattle.rowsets.specs.Marks.{same_place, stands_in}
use Rattle.rowsets.specs.Ending.{Moved, AreMoved}
use Rattle.rowsets.specs.Indexing.{CodeMap, CodeMove, Move, code_cmp, code_moves, merged_place, place_after, put_all}
use Rattle.rowsets.proofs.IndexFacts.{map_stores_moves, one_index, places_make_index, stored_moves_move_index}
use Rattle.rowsets.proofs.LiveFacts.{live-named, same_place-exact, same_place-same}
use Rattle.rowsets.proofs.StepFacts.{key_codes_tell}
use Rattle.store_files.specs.Keys.{code_at, live_codes}
use Rattle.store_files.specs.Indexes.{all_codes, all_moved, codes_of, live_moved, CodesFindRows, LiveAreMoved, LiveFit}

abbrev Row : Type 0
Row = List Value

some_same : {X : Type 0} (x y : X) → Some x ≡ Some y → x ≡ y
some_same x y e = cc

none_some : {X : Type 0} (x : X) → None ≡ Some x → ⊥
none_some x e = cc

true_false : (b : Bool) → b ≡ true → b ≡ false → ⊥
true_false b e f = cc

or_true : (b : Bool) → (b || true) ≡ true
or_true true = refl
or_true false = refl

-- ---- lists of which all have something

all_append : (P : Moved → Type 0) (xs ys : List Moved) → AllByRecursion P xs → AllByRecursion P ys → AllByRecursion P (xs ++ ys)
all_append P [] ys h g = g
all_append P (x ∷ xs) ys h g = (h.0, all_append P xs ys h.1 g)

all_so : (P Q : Moved → Type 0) (xs : List Moved) → ((x : Moved) → P x → Q x) → AllByRecursion P xs → AllByRecursion Q xs
all_so P Q [] f h = tt
all_so P Q (x ∷ xs) f h = (f x h.0, all_so P Q xs f h.1)

-- ---- the live rows of one file

abbrev at : ℕ → ℕ → Place
at file row = record { segment = file; row = row }

module _ (s : Layout) (file : ℕ) (dead : List ℕ) where
  each_in : (rows : Live) (i : ℕ) (xs : List Row) → ((j : ℕ) (row : Row) → slice_get xs j ≡ Some row → list_any (λ r. r == i + j) dead ≡ false → rows (at file (i + j)) ≡ Some row)
      → AllByRecursion (λ e. HasKey s rows e.place e.key) (live_moved s file dead i xs)
  each_in rows i [] h = tt
  each_in rows i (x ∷ xs) h =
      go (list_any (λ r. r == i) dead) refl (each_in rows (i + 1) xs (λ j row is live. ap (λ n. rows (at file n)) (next j) ∙ h (suc j) row is (ap (λ n. list_any (λ r. r == n) dead) (sym (next j)) ∙ live)))
    where
      next : (j : ℕ) → i + 1 + j ≡ i + suc j
      next j = omega arith

      here : i + 0 ≡ i
      here = omega arith

      go : (b : Bool) → list_any (λ r. r == i) dead ≡ b → AllByRecursion (λ e. HasKey s rows e.place e.key) (live_moved s file dead (i + 1) xs)
          → AllByRecursion (λ e. HasKey s rows e.place e.key) (cond b (live_moved s file dead (i + 1) xs) (record { key = key_of s x; place = at file i } ∷ live_moved s file dead (i + 1) xs))
      go true e more = more
      go false e more = ((x, ap (λ n. rows (at file n)) (sym here) ∙ h 0 x refl (ap (λ n. list_any (λ r. r == n) dead) here ∙ e), refl), more)

  all_in : (i j : ℕ) (xs : List Row) (row : Row) → slice_get xs j ≡ Some row → list_any (λ r. r == i + j) dead ≡ false → stands_in (map (λ e. e.place) (live_moved s file dead i xs)) (at file (i + j)) ≡ true
  all_in i j [] row is live = absurd (none_some row is)
  all_in i zero (x ∷ xs) row is live = go (list_any (λ r. r == i) dead) (ap (λ n. list_any (λ r. r == n) dead) (sym here) ∙ live)
    where
      here : i + 0 ≡ i
      here = omega arith

      go : (b : Bool) → b ≡ false → stands_in (map (λ e. e.place) (cond b (live_moved s file dead (i + 1) xs) (record { key = key_of s x; place = at file i } ∷ live_moved s file dead (i + 1) xs))) (at file (i + 0)) ≡ true
      go true e = absurd (true_false true refl e)
      go false e =
          ap (λ n. stands_in (map (λ e. e.place) (record { key = key_of s x; place = at file i } ∷ live_moved s file dead (i + 1) xs)) (at file n)) here
          ∙ ap (λ b. b || stands_in (map (λ e. e.place) (live_moved s file dead (i + 1) xs)) (at file i)) (same_place-same (at file i))
  all_in i (suc j) (x ∷ xs) row is live =
      go (list_any (λ r. r == i) dead)
      (ap (λ n. stands_in (map (λ e. e.place) (live_moved s file dead (i + 1) xs)) (at file n)) next
      ∙ all_in (i + 1) j xs row is (ap (λ n. list_any (λ r. r == n) dead) (sym next) ∙ live))
    where
      next : i + suc j ≡ i + 1 + j
      next = omega arith

      go : (b : Bool) → stands_in (map (λ e. e.place) (live_moved s file dead (i + 1) xs)) (at file (i + suc j)) ≡ true
          → stands_in (map (λ e. e.place) (cond b (live_moved s file dead (i + 1) xs) (record { key = key_of s x; place = at file i } ∷ live_moved s file dead (i + 1) xs))) (at file (i + suc j)) ≡ true
      go true more = more
      go false more = ap (λ b. same_place (at file (i + suc j)) (at file i) || b) more ∙ or_true (same_place (at file (i + suc j)) (at file i))

-- ---- the live rows of parts

module _ (s : Layout) (stored : Files) where
  first_live : (part : Part) (parts : List Part) (j : ℕ) (row : Row) → slice_get (stored part.file) j ≡ Some row → list_any (λ r. r == 0 + j) part.dead ≡ false → live stored (part ∷ parts) (at part.file (0 + j)) ≡ Some row
  first_live part parts j row is alive =
      let here : 0 + j ≡ j = omega arith in
      ap (λ n. live stored (part ∷ parts) (at part.file n)) here
      ∙ ap (λ b. cond b (cond (is_dead part j) None (slice_get (stored part.file) j)) (live stored parts (at part.file j))) (eq-eqb part.file part.file refl)
      ∙ ap (λ b. cond b None (slice_get (stored part.file) j)) (ap (λ n. list_any (λ r. r == n) part.dead) (sym here) ∙ alive) ∙ is

  later_live : (part : Part) (parts : List Part) (e : Moved) → names parts part.file ≡ false → HasKey s (live stored parts) e.place e.key → HasKey s (live stored (part ∷ parts)) e.place e.key
  later_live part parts e once has = (has.0, go (part.file == e.place.segment) refl, has.2)
    where
      go : (b : Bool) → (part.file == e.place.segment) ≡ b → live stored (part ∷ parts) e.place ≡ Some has.0
      go true t = absurd (true_false (names parts part.file) (ap (names parts) (exact_unsigned_eq part.file e.place.segment t) ∙ live-named stored parts e.place has.0 has.1) once)
      go false t = ap (λ b. cond b (cond (is_dead part e.place.row) None (slice_get (stored part.file) e.place.row)) (live stored parts e.place)) t ∙ has.1

  moved_each : (parts : List Part) → FilesOnce parts → AllByRecursion (λ e. HasKey s (live stored parts) e.place e.key) (all_moved s stored parts)
  moved_each [] once = tt
  moved_each (part ∷ parts) once =
      all_append (λ e. HasKey s (live stored (part ∷ parts)) e.place e.key) (live_moved s part.file part.dead 0 (stored part.file)) (all_moved s stored parts)
      (each_in s part.file part.dead (live stored (part ∷ parts)) 0 (stored part.file) (λ j row is alive. first_live part parts j row is alive))
      (all_so (λ e. HasKey s (live stored parts) e.place e.key) (λ e. HasKey s (live stored (part ∷ parts)) e.place e.key) (all_moved s stored parts)
      (λ e has. later_live part parts e once.0 has) (moved_each parts once.1))

  moved_all : (parts : List Part) (p : Place) (row : Row) → live stored parts p ≡ Some row → stands_in (map (λ e. e.place) (all_moved s stored parts)) p ≡ true
  moved_all [] p row is = absurd (none_some row is)
  moved_all (part ∷ parts) p row is =
      ap (λ ps. stands_in ps p) (map-append (λ e. e.place) mine (all_moved s stored parts))
      ∙ list_any-append (same_place p) (map (λ e. e.place) mine) (map (λ e. e.place) (all_moved s stored parts))
      ∙ go (moved_all parts p row) (part.file == p.segment) refl is
    where
      mine : List Moved
      mine = live_moved s part.file part.dead 0 (stored part.file)

      here : (e : part.file ≡ p.segment) (b : Bool) → is_dead part p.row ≡ b → cond b None (slice_get (stored part.file) p.row) ≡ Some row → stands_in (map (λ e. e.place) mine) p ≡ true
      here e true f is = absurd (none_some row is)
      here e false f is =
          let zero_more : 0 + p.row ≡ p.row = omega arith in
          let found = all_in s part.file part.dead 0 p.row (stored part.file) row is (ap (λ n. list_any (λ r. r == n) part.dead) zero_more ∙ f) in
          ap (λ n. stands_in (map (λ e. e.place) mine) (at n p.row)) (sym e) ∙ ap (λ n. stands_in (map (λ e. e.place) mine) (at part.file n)) (sym zero_more) ∙ found

      go : (live stored parts p ≡ Some row → stands_in (map (λ e. e.place) (all_moved s stored parts)) p ≡ true) → (b : Bool) → (part.file == p.segment) ≡ b
          → cond b (cond (is_dead part p.row) None (slice_get (stored part.file) p.row)) (live stored parts p) ≡ Some row
          → (stands_in (map (λ e. e.place) mine) p || stands_in (map (λ e. e.place) (all_moved s stored parts)) p) ≡ true
      go more true e is = ap (λ b. b || stands_in (map (λ e. e.place) (all_moved s stored parts)) p) (here (exact_unsigned_eq part.file p.segment e) (is_dead part p.row) refl is)
      go more false e is = ap (λ b. stands_in (map (λ e. e.place) mine) p || b) (more is) ∙ or_true (stands_in (map (λ e. e.place) mine) p)

pub live_are_moved : LiveAreMoved
live_are_moved s stored parts once = record { each = moved_each s stored parts once; all = λ p row is. moved_all s stored parts p row is }

-- ---- the moves to these places

abbrev to_move : Moved → Move
to_move e = record { key = e.key; place = Some e.place }

module _ (s : Layout) (rows : Live) where
  after_some : (es : List Moved) (k : Row) (old : Option Place) (p : Place) → AllByRecursion (λ e. HasKey s rows e.place e.key) es → place_after (map to_move es) k old ≡ Some p → (old ≡ Some p) ⊎ HasKey s rows p k
  after_some [] k old p each is = inl is
  after_some (e ∷ es) k old p each is =
      elim (after_some es k (cond (eq_by_cmp key_cmp k e.key) (Some e.place) old) p each.1 is) [
        | inl here ↦ go (eq_by_cmp key_cmp k e.key) refl here
        | inr later ↦ inr later
      ]
    where
      go : (b : Bool) → eq_by_cmp key_cmp k e.key ≡ b → cond b (Some e.place) old ≡ Some p → (old ≡ Some p) ⊎ HasKey s rows p k
      go false t is = inl is
      go true t is = inr (subst (λ q. HasKey s rows q k) (some_same e.place p is) (subst (λ q. HasKey s rows e.place q) (sym (tells_apart key_exact k e.key t)) each.0))

  stays : (es : List Moved) (k : Row) (p : Place) → (q : Place) × (place_after (map to_move es) k (Some p) ≡ Some q)
  stays [] k p = (p, refl)
  stays (e ∷ es) k p = go (eq_by_cmp key_cmp k e.key) (stays es k e.place) (stays es k p)
    where
      go : (b : Bool) → (q : Place) × (place_after (map to_move es) k (Some e.place) ≡ Some q) → (q : Place) × (place_after (map to_move es) k (Some p) ≡ Some q)
          → (q : Place) × (place_after (map to_move es) k (cond b (Some e.place) (Some p)) ≡ Some q)
      go true mine others = mine
      go false mine others = others

  after_found : (es : List Moved) (k : Row) (old : Option Place) → list_any (λ e. eq_by_cmp key_cmp k e.key) es ≡ true → (q : Place) × (place_after (map to_move es) k old ≡ Some q)
  after_found [] k old is = absurd (true_false false is refl)
  after_found (e ∷ es) k old is = go (eq_by_cmp key_cmp k e.key) is (λ more. after_found es k old more)
    where
      go : (b : Bool) → (b || list_any (λ e. eq_by_cmp key_cmp k e.key) es) ≡ true → (list_any (λ e. eq_by_cmp key_cmp k e.key) es ≡ true → (q : Place) × (place_after (map to_move es) k old ≡ Some q))
          → (q : Place) × (place_after (map to_move es) k (cond b (Some e.place) old) ≡ Some q)
      go true h others = stays es k e.place
      go false h others = others h

  has_its_key : (es : List Moved) (k : Row) (p : Place) → AllByRecursion (λ e. HasKey s rows e.place e.key) es → HasKey s rows p k → stands_in (map (λ e. e.place) es) p ≡ true
      → list_any (λ e. eq_by_cmp key_cmp k e.key) es ≡ true
  has_its_key [] k p each has is = absurd (true_false false is refl)
  has_its_key (e ∷ es) k p each has is = go (same_place p e.place) refl is (λ more. has_its_key es k p each.1 has more)
    where
      others : Bool
      others = list_any (λ e. eq_by_cmp key_cmp k e.key) es

      go : (b : Bool) → same_place p e.place ≡ b → (b || stands_in (map (λ e. e.place) es) p) ≡ true → (stands_in (map (λ e. e.place) es) p ≡ true → others ≡ true) → (eq_by_cmp key_cmp k e.key || others) ≡ true
      go true t h later =
          let its : HasKey s rows p e.key = subst (λ q. HasKey s rows q e.key) (same_place-exact p e.place t) each.0 in
          let same : k ≡ e.key = sym has.2 ∙ ap (key_of s) (some_same has.0 its.0 (sym has.1 ∙ its.1)) ∙ its.2 in
          ap (λ q. eq_by_cmp key_cmp k q || others) (sym same) ∙ ap (λ b. b || others) ((eq_by_cmp_equiv key_total).refl k)
      go false t h later = ap (λ b. eq_by_cmp key_cmp k e.key || b) (later h) ∙ or_true (eq_by_cmp key_cmp k e.key)

  exact_moves : (es : List Moved) (m : Rows) → StandsFor s rows m → AreMoved s rows es → IsIndex s rows (λ k. place_after (map to_move es) k None)
  exact_moves es m stands are k p = (from p, to)
    where
      from : (q : Place) → place_after (map to_move es) k None ≡ Some q → HasKey s rows q k
      from q is = elim (after_some es k None q are.each is) [
        | inl never ↦ absurd (none_some q never)
        | inr has ↦ has
      ]

      to : HasKey s rows p k → place_after (map to_move es) k None ≡ Some p
      to has =
          let found = after_found es k None (has_its_key es k p are.each has (are.all p has.0 has.1)) in
          found.1 ∙ ap Some (stands.once found.0 p k (from found.0 found.1) has)

-- ---- their codes

codes_in : (s : Layout) (file : ℕ) (dead : List ℕ) (i : ℕ) (xs : List Row) → live_codes s file dead i xs ≡ code_moves (key_code s) (map to_move (live_moved s file dead i xs))
codes_in s file dead i [] = refl
codes_in s file dead i (x ∷ xs) = go (list_any (λ r. r == i) dead) (codes_in s file dead (i + 1) xs)
  where
    go : (b : Bool) → live_codes s file dead (i + 1) xs ≡ code_moves (key_code s) (map to_move (live_moved s file dead (i + 1) xs))
        → cond b (live_codes s file dead (i + 1) xs) (code_at s file i x ∷ live_codes s file dead (i + 1) xs)
        ≡ code_moves (key_code s) (map to_move (cond b (live_moved s file dead (i + 1) xs) (record { key = key_of s x; place = at file i } ∷ live_moved s file dead (i + 1) xs)))
    go true e = e
    go false e = ap (λ (cs : List CodeMove). code_at s file i x ∷ cs) e

codes_are : (s : Layout) (stored : Files) (parts : List Part) → all_codes s stored parts ≡ code_moves (key_code s) (map to_move (all_moved s stored parts))
codes_are s stored [] = refl
codes_are s stored (part ∷ parts) =
    ap (λ (cs : List CodeMove). cs ++ all_codes s stored parts) (codes_in s part.file part.dead 0 (stored part.file))
    ∙ ap (λ (cs : List CodeMove). code_moves (key_code s) (map to_move mine) ++ cs) (codes_are s stored parts)
    ∙ sym (map-append (λ (c : Move). (key_code s c.key, c.place)) (map to_move mine) (map to_move (all_moved s stored parts)))
    ∙ ap (code_moves (key_code s)) (sym (map-append to_move mine (all_moved s stored parts)))
  where
    mine : List Moved
    mine = live_moved s part.file part.dead 0 (stored part.file)

moves_fit : (s : Layout) (stored : Files) (parts : List Part) (es : List Moved) → LiveFit s stored parts → AllByRecursion (λ e. HasKey s (live stored parts) e.place e.key) es
    → AllByRecursion (λ c. fits_key s c.key ≡ true) (map to_move es)
moves_fit s stored parts [] fit each = tt
moves_fit s stored parts (e ∷ es) fit each =
    (subst (λ k. fits_key s k ≡ true) each.0.2 (fits_all-take s.keys s.columns each.0.0 (fit e.place each.0.0 each.0.1)), moves_fit s stored parts es fit each.1)

pub codes_find_rows : CodesFindRows
codes_find_rows s stored parts m valid once stands fit k =
    stored_moves_move_index (fits_key s) (key_code s) moves (get none) (get (codes_of s stored parts)) (key_codes_tell s valid)
    (moves_fit s stored parts moved fit are.each)
    (λ c. ap (λ cs. get (put_all cs none) c) (codes_are s stored parts) ∙ map_stores_moves (code_moves (key_code s) moves) none c) k
    ∙ ap (place_after moves k) (nowhere (fits_key s k))
    ∙ one_index s rows (λ q. place_after moves q None) (merged_place moved) (exact_moves s rows moved m stands are) (places_make_index s rows m moved stands are) k
  where
    rows : Live
    rows = live stored parts

    moved : List Moved
    moved = all_moved s stored parts

    moves : List Move
    moves = map to_move moved

    none : CodeMap
    none = empty

    are : AreMoved s rows moved
    are = live_are_moved s stored parts once

    nowhere : (b : Bool) → cond b (get none (key_code s k)) None ≡ None
    nowhere true = get-empty code_cmp (key_code s k)
    nowhere false = refl
