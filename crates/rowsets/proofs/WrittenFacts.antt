-- What is written into files is live.
use Rattle.std.proofs.Common.{◌≡◌, ◌↔◌, refl, ap, sym, subst, ◌∙◌, ℕ, zero, suc, ◌+◌, ◌<◌, List, [], ◌∷◌, ◌++◌, map, length, Option, Some, None, Bool, true, false, ◌&&◌, ◌||◌, ◌==◌, cond, T, slice_get, eq-eqb, arith, ◌⊎◌, inl, inr, ◌≤◌}
use Rattle.std.specs.Ordering.{eq_by_cmp, is_lt, is_eq}
use Rattle.std.specs.declared.cmp.Ordering.{Ordering}
use Rattle.std.specs.declared.cmp.Ordering.TheVariants.{Less, Equal, Greater}
use Rattle.std.specs.Cmp.{eq_by_cmp_equiv}
use Rattle.std.specs.FinMap.{get, get-entries, get-empty, empty, entries, entries_sorted, values}
use Rattle.std.specs.List.{list_any, AllByRecursion}
use Rattle.std.proofs.lemmas.List.{map-append}
use Rattle.std.proofs.lemmas.List.Folds.{list_any-append}
use Rattle.std.proofs.lemmas.Bool.{eqb-true, ne_eqb}
use Rattle.std.specs.FinMap.Entries.{find, below_all, is_sorted}
use Rattle.std.proofs.lemmas.Map.Views.{exact_unsigned_eq, tells_apart}
use Rattle.pk_values.specs.Order.{key_cmp}
use Rattle.pk_values.specs.OrderFacts.{key_total, key_exact}
use Rattle.pk_values.specs.Schemas.{key_of}
use Rattle.pk_values.specs.declared.cells.Value.{Value}
use Rattle.index_level0.specs.declared.place.Place.{Place}
use Rattle.pk_values.specs.Schemas.{Layout}
use Rattle.pk_model.specs.Laws.{KeysStandFirst, result_for}
use Rattle.pk_model.specs.Tables.{Rows, after, touches}
use Rattle.pk_model.proofs.LawfulLaws.{lawful-keeps-keys}
use Rattle.pk_model.proofs.LoadLaws.{one_result_per_key}
use Rattle.pk_model.proofs.WriteLaws.{unnamed}
use Rattle.rowsets.specs.Live.{Files, live, names, FilesOnce, is_among, HasKey, HasRow, StandsFor}
use Rattle.rowsets.specs.Marks.{same_place, stands_in}
use Rattle.rowsets.specs.Merging.{all_live, written, IsListed, WrittenAreLive, WrittenStand, moved_in, moved_to, WrittenAreMoved, WholeLoadWritten, numbered, with_files, all_rows, NumberedAreWritten, LowerFilesStay, NumberedAreNew, ResultsWritten}
use Rattle.rowsets.proofs.LiveFacts.{same_place-same}
use Rattle.rowsets.proofs.LoadFacts.{whole_load_results}

abbrev Entries : Type 0
Entries = List (List Value × List Value)

pub one : (a b : Bool) → T (a && b) → T a
one true b h = tt
one false b h = absurd h

pub two : (a b : Bool) → T (a && b) → T b
two true b h = h
two false b h = absurd h

pub some_same : {X : Type 0} (x y : X) → Some x ≡ Some y → x ≡ y
some_same x y e = cc

pub itself : (k : List Value) → eq_by_cmp key_cmp k k ≡ true
itself k = (eq_by_cmp_equiv key_total).refl k

pub less_only : (o : Ordering) → T (is_lt o) → is_eq o ≡ false
less_only Less h = refl
less_only Equal h = absurd h
less_only Greater h = refl

-- a key below all is none of theirs
pub below_other : (x : List Value) (es : Entries) (j : ℕ) (e : List Value × List Value) → T (below_all key_cmp x es) → slice_get es j ≡ Some e → eq_by_cmp key_cmp x e.0 ≡ false
below_other x [] j e h is = cc
below_other x (f ∷ es) zero e h is =
    ap (λ (d : List Value × List Value). eq_by_cmp key_cmp x d.0) (sym (some_same f e is)) ∙ less_only (key_cmp x f.0) (one _ _ h)
below_other x (f ∷ es) (suc j) e h is = below_other x es j e (two _ _ h) is

pub apart : (x y : List Value) → x ≡ y → eq_by_cmp key_cmp x y ≡ false → ⊥
apart x y e f = clash (sym (itself x) ∙ ap (eq_by_cmp key_cmp x) e ∙ f)
  where
    clash : true ≡ false → ⊥
    clash e = cc

-- entries with one key stand at one index
pub one_index : (es : Entries) (i j : ℕ) (e f : List Value × List Value) → T (is_sorted key_cmp es) → slice_get es i ≡ Some e → slice_get es j ≡ Some f → e.0 ≡ f.0 → i ≡ j
one_index [] i j e f h a b k = cc
one_index (d ∷ es) zero zero e f h a b k = refl
one_index (d ∷ es) zero (suc j) e f h a b k =
    absurd (apart d.0 f.0 (ap (λ (x : List Value × List Value). x.0) (some_same d e a) ∙ k) (below_other d.0 es j f (one _ _ h) b))
one_index (d ∷ es) (suc i) zero e f h a b k =
    absurd (apart d.0 e.0 (ap (λ (x : List Value × List Value). x.0) (some_same d f b) ∙ sym k) (below_other d.0 es i e (one _ _ h) a))
one_index (d ∷ es) (suc i) (suc j) e f h a b k = ap suc (one_index es i j e f (two _ _ h) a b k)

-- each entry is found
pub found : (es : Entries) (i : ℕ) (e : List Value × List Value) → T (is_sorted key_cmp es) → slice_get es i ≡ Some e → find key_cmp e.0 es ≡ Some e.1
found [] i e h is = cc
found (d ∷ es) zero e h is =
    let same : d ≡ e = some_same d e is in
    ap (λ (x : List Value × List Value). cond (eq_by_cmp key_cmp x.0 d.0) (Some d.1) (find key_cmp x.0 es)) (sym same)
    ∙ ap (λ b. cond b (Some d.1) (find key_cmp d.0 es)) (itself d.0) ∙ ap (λ (x : List Value × List Value). Some x.1) same
found (d ∷ es) (suc i) e h is =
    let other : eq_by_cmp key_cmp e.0 d.0 ≡ false = (eq_by_cmp_equiv key_total).symm e.0 d.0 ∙ below_other d.0 es i e (one _ _ h) is in
    ap (λ b. cond b (Some d.1) (find key_cmp e.0 es)) other ∙ found es i e (two _ _ h) is

-- what is found is an entry
pub entry : (es : Entries) (k row : List Value) → find key_cmp k es ≡ Some row → (i : ℕ) × (e : List Value × List Value) × (slice_get es i ≡ Some e) × (e.0 ≡ k) × (e.1 ≡ row)
entry [] k row is = cc
entry (d ∷ es) k row is = go (entry es k row) (eq_by_cmp key_cmp k d.0) refl is
  where
    go : (find key_cmp k es ≡ Some row → (i : ℕ) × (e : List Value × List Value) × (slice_get es i ≡ Some e) × (e.0 ≡ k) × (e.1 ≡ row))
        → (b : Bool) → eq_by_cmp key_cmp k d.0 ≡ b → cond b (Some d.1) (find key_cmp k es) ≡ Some row → (i : ℕ) × (e : List Value × List Value) × (slice_get (d ∷ es) i ≡ Some e) × (e.0 ≡ k) × (e.1 ≡ row)
    go more true t is = (0, d, refl, sym (tells_apart key_exact k d.0 t), some_same d.1 row is)
    go more false t is = let w = more is in (suc w.0, w.1, w.2, w.3, w.4)

pub mapped : {X Y : Type 0} (f : X → Y) (xs : List X) (i : ℕ) (y : Y) → slice_get (map f xs) i ≡ Some y → (x : X) × (slice_get xs i ≡ Some x) × (f x ≡ y)
mapped f [] i y is = cc
mapped f (x ∷ xs) zero y is = (x, refl, some_same (f x) y is)
mapped f (x ∷ xs) (suc i) y is = mapped f xs i y is

pub to_mapped : {X Y : Type 0} (f : X → Y) (xs : List X) (i : ℕ) (x : X) → slice_get xs i ≡ Some x → slice_get (map f xs) i ≡ Some (f x)
to_mapped f [] i x is = cc
to_mapped f (y ∷ xs) zero x is = ap (λ z. Some (f z)) (some_same y x is)
to_mapped f (y ∷ xs) (suc i) x is = to_mapped f xs i x is

pub at_first : {X : Type 0} (xs ys : List X) (i : ℕ) (x : X) → slice_get xs i ≡ Some x → (slice_get (xs ++ ys) i ≡ Some x) × (i < length xs)
at_first [] ys i x is = cc
at_first (y ∷ xs) ys zero x is = (is, omega arith)
at_first (y ∷ xs) ys (suc i) x is = let h = at_first xs ys i x is in let l : i < length xs = h.1 in (h.0, omega arith)

pub at_last : {X : Type 0} (xs ys : List X) (j : ℕ) → slice_get (xs ++ ys) (length xs + j) ≡ slice_get ys j
at_last [] ys j = let e : 0 + j ≡ j = omega arith in ap (slice_get ys) e
at_last (x ∷ xs) ys j = let e : suc (length xs) + j ≡ suc (length xs + j) = omega arith in ap (slice_get (x ∷ xs ++ ys)) e ∙ at_last xs ys j

pub split : {X : Type 0} (xs ys : List X) (i : ℕ) (x : X) → slice_get (xs ++ ys) i ≡ Some x → (slice_get xs i ≡ Some x) ⊎ ((j : ℕ) × (slice_get ys j ≡ Some x))
split [] ys i x is = inr (i, is)
split (y ∷ xs) ys zero x is = inl is
split (y ∷ xs) ys (suc i) x is = split xs ys i x is

module _ (rows : Files) where
  -- the row at this index of what is written stands at this place
  IsAt : List ℕ → ℕ → Place → Type 0
  IsAt [] i p = ⊥
  IsAt (n ∷ ns) i p = ((p ≡ record { segment = n; row = i }) × (i < length (rows n))) ⊎ ((j : ℕ) × (i ≡ length (rows n) + j) × IsAt ns j p)

  one_place : (ns : List ℕ) (i : ℕ) (p q : Place) → IsAt ns i p → IsAt ns i q → p ≡ q
  unfolding IsAt
  one_place [] i p q a b = absurd a
  one_place (n ∷ ns) i p q (inl a) (inl b) = a.0 ∙ sym b.0
  one_place (n ∷ ns) i p q (inl a) (inr b) = absurd (omega arith)
  one_place (n ∷ ns) i p q (inr a) (inl b) = absurd (omega arith)
  one_place (n ∷ ns) i p q (inr a) (inr b) =
      let same : a.0 ≡ b.0 = omega arith in
      one_place ns a.0 p q a.2 (subst (λ j. IsAt ns j q) (sym same) b.2)

  -- a live row is the row of its file
  of_file : (ns : List ℕ) (p : Place) (row : List Value) → live rows (map all_live ns) p ≡ Some row → slice_get (rows p.segment) p.row ≡ Some row
  of_file [] p row is = cc
  of_file (n ∷ ns) p row is = go (of_file ns p row) (n == p.segment) refl is
    where
      go : (live rows (map all_live ns) p ≡ Some row → slice_get (rows p.segment) p.row ≡ Some row) → (b : Bool) → (n == p.segment) ≡ b
          → cond b (slice_get (rows n) p.row) (live rows (map all_live ns) p) ≡ Some row → slice_get (rows p.segment) p.row ≡ Some row
      go more true e is = ap (λ x. slice_get (rows x) p.row) (sym (exact_unsigned_eq n p.segment e)) ∙ is
      go more false e is = more is

  is_live : (ns : List ℕ) (i : ℕ) (row : List Value) → slice_get (written rows ns) i ≡ Some row → (p : Place) × (live rows (map all_live ns) p ≡ Some row)
  is_live [] i row is = cc
  is_live (n ∷ ns) i row is =
      elim (split (rows n) (written rows ns) i row is) [
        | inl here ↦ (record { segment = n; row = i }, ap (λ b. cond b (slice_get (rows n) i) (live rows (map all_live ns) (record { segment = n; row = i }))) (eq-eqb n n refl) ∙ here)
        | inr later ↦ let w = is_live ns later.0 row later.1 in (w.0, go w.0 w.1 (n == w.0.segment) refl)
      ]
    where
      go : (p : Place) → live rows (map all_live ns) p ≡ Some row → (b : Bool) → (n == p.segment) ≡ b → live rows (map all_live (n ∷ ns)) p ≡ Some row
      go p is true e =
          ap (λ b. cond b (slice_get (rows n) p.row) (live rows (map all_live ns) p)) e
          ∙ ap (λ x. slice_get (rows x) p.row) (exact_unsigned_eq n p.segment e) ∙ of_file ns p row is
      go p is false e = ap (λ b. cond b (slice_get (rows n) p.row) (live rows (map all_live ns) p)) e ∙ is

  is_written : (ns : List ℕ) (p : Place) (row : List Value) → live rows (map all_live ns) p ≡ Some row → (i : ℕ) × (slice_get (written rows ns) i ≡ Some row) × IsAt ns i p
  unfolding IsAt
  is_written [] p row is = cc
  is_written (n ∷ ns) p row is = go (is_written ns p row) (n == p.segment) refl is
    where
      go : (live rows (map all_live ns) p ≡ Some row → (i : ℕ) × (slice_get (written rows ns) i ≡ Some row) × IsAt ns i p) → (b : Bool) → (n == p.segment) ≡ b
          → cond b (slice_get (rows n) p.row) (live rows (map all_live ns) p) ≡ Some row → (i : ℕ) × (slice_get (written rows (n ∷ ns)) i ≡ Some row) × IsAt (n ∷ ns) i p
      go more true e is =
          let h = at_first (rows n) (written rows ns) p.row row is in
          (p.row, h.0, inl ((λ i. record { segment = sym (exact_unsigned_eq n p.segment e) i; row = p.row }), h.1))
      go more false e is = let w = more is in (length (rows n) + w.0, at_last (rows n) (written rows ns) w.0 ∙ w.1, inr (w.0, refl, w.2))

pub written_are_live : WrittenAreLive
written_are_live s rows files k row = (
  λ h. let w = is_written rows files h.0 row h.1 in ((w.0, w.1), h.2),
  λ h. let w = is_live rows files h.0.0 row h.0.1 in (w.0, w.1, h.1),
)

pub results_written : ResultsWritten
results_written s load m rows files results named = record {
  results = λ k row e. (λ is. (written_are_live s rows files k row).1 ((results k row e).0 is), λ h. (results k row e).1 ((written_are_live s rows files k row).0 h));
  named = λ p k h. let w = (written_are_live s rows files k h.0).0 (p, h.1, h.2) in ap (is_among (touches load.ops)) (sym w.1) ∙ named h.0 w.0;
}

-- a row of a map by its key
pub row_listed : (m : Rows) (k row : List Value) → get m k ≡ Some row → IsListed (values m) row
row_listed m k row is =
    let e = entry (entries m) k row (sym (get-entries m k) ∙ is) in
    (e.0, to_mapped (λ (e : List Value × List Value). e.1) (entries m) e.0 e.1 e.2 ∙ ap Some e.4)

pub listed_row : (s : Layout) (m : Rows) (row : List Value) → KeysStandFirst s m → IsListed (values m) row → get m (key_of s row) ≡ Some row
listed_row s m row first h =
    let e = mapped (λ (e : List Value × List Value). e.1) (entries m) h.0 row h.1 in
    let at : get m e.0.0 ≡ Some e.0.1 = get-entries m e.0.0 ∙ found (entries m) h.0 e.0 (entries_sorted m) e.1 in
    let key : key_of s row ≡ e.0.0 = ap (key_of s) (sym e.2) ∙ first e.0.0 e.0.1 at in
    ap (get m) key ∙ at ∙ ap Some e.2

pub written_stand : WrittenStand
written_stand s rows files m first wrote = record { same = λ k row. (to k row, from k row); once = once }
  where
    to : (k row : List Value) → get m k ≡ Some row → HasRow s (live rows (map all_live files)) k row
    to k row is = (written_are_live s rows files k row).1 (subst (λ xs. IsListed xs row) (sym wrote) (row_listed m k row is), first k row is)

    from : (k row : List Value) → HasRow s (live rows (map all_live files)) k row → get m k ≡ Some row
    from k row h =
        let w = (written_are_live s rows files k row).0 h in
        ap (get m) (sym w.1) ∙ listed_row s m row first (subst (λ xs. IsListed xs row) wrote w.0)

    -- the entry of a live row
    entry_of : (p : Place) (row : List Value) → live rows (map all_live files) p ≡ Some row
        → (i : ℕ) × (e : List Value × List Value) × (slice_get (entries m) i ≡ Some e) × (e.0 ≡ key_of s row) × IsAt rows files i p
    entry_of p row is =
        let w = is_written rows files p row is in
        let there : slice_get (values m) w.0 ≡ Some row = ap (λ (xs : List (List Value)). slice_get xs w.0) (sym wrote) ∙ w.1 in
        let e = mapped (λ (e : List Value × List Value). e.1) (entries m) w.0 row there in
        let at : get m e.0.0 ≡ Some e.0.1 = get-entries m e.0.0 ∙ found (entries m) w.0 e.0 (entries_sorted m) e.1 in
        (w.0, e.0, e.1, sym (first e.0.0 e.0.1 at) ∙ ap (key_of s) e.2, w.2)

    once : (p q : Place) (k : List Value) → HasKey s (live rows (map all_live files)) p k → HasKey s (live rows (map all_live files)) q k → p ≡ q
    once p q k h g =
        let a = entry_of p h.0 h.1 in
        let b = entry_of q g.0 g.1 in
        let same : a.0 ≡ b.0 = one_index (entries m) a.0 b.0 a.1 b.1 (entries_sorted m) a.2 b.2 (a.3 ∙ h.2 ∙ sym g.2 ∙ sym b.3) in
        one_place rows files a.0 p q a.4 (subst (λ i. IsAt rows files i q) (sym same) b.4)

-- each row of a file is live where the file is named
moved_live : (s : Layout) (rows : Files) (files : List ℕ) (n i : ℕ) (xs : List (List Value))
    → ((j : ℕ) → slice_get (rows n) (i + j) ≡ slice_get xs j) → list_any (λ m. m == n) files ≡ true
    → AllByRecursion (λ e. HasKey s (live rows (map all_live files)) e.place e.key) (moved_in s n i xs)
moved_live s rows files n i [] at named = tt
moved_live s rows files n i (row ∷ xs) at named =
    let here : i + 0 ≡ i = omega arith in (
      (row, in_file files (record { segment = n; row = i }) named ∙ ap (slice_get (rows n)) (sym here) ∙ at 0, refl),
      moved_live s rows files n (i + 1) xs (λ j. let next : i + 1 + j ≡ i + suc j = omega arith in ap (slice_get (rows n)) next ∙ at (suc j)) named,
    )
  where
    in_file : (files : List ℕ) (p : Place) → list_any (λ m. m == p.segment) files ≡ true → live rows (map all_live files) p ≡ slice_get (rows p.segment) p.row
    in_file [] p e = cc
    in_file (m ∷ ms) p e = go (m == p.segment) refl e (in_file ms p)
      where
        go : (b : Bool) → (m == p.segment) ≡ b → (b || list_any (λ m. m == p.segment) ms) ≡ true → (list_any (λ m. m == p.segment) ms ≡ true → live rows (map all_live ms) p ≡ slice_get (rows p.segment) p.row)
            → cond b (slice_get (rows m) p.row) (live rows (map all_live ms) p) ≡ slice_get (rows p.segment) p.row
        go true f e more = ap (λ n. slice_get (rows n) p.row) (eqb-true m p.segment f)
        go false f e more = more e

all-append : {X : Type 0} (P : X → Type 0) (xs ys : List X) → AllByRecursion P xs → AllByRecursion P ys → AllByRecursion P (xs ++ ys)
all-append P [] ys h g = g
all-append P (x ∷ xs) ys h g = (h.0, all-append P xs ys h.1 g)

moved_each : (s : Layout) (rows : Files) (files ns : List ℕ) → ((n : ℕ) → list_any (λ m. m == n) ns ≡ true → list_any (λ m. m == n) files ≡ true)
    → AllByRecursion (λ e. HasKey s (live rows (map all_live files)) e.place e.key) (moved_to s rows ns)
moved_each s rows files [] within = tt
moved_each s rows files (n ∷ ns) within =
    all-append (λ e. HasKey s (live rows (map all_live files)) e.place e.key) (moved_in s n 0 (rows n)) (moved_to s rows ns)
    (moved_live s rows files n 0 (rows n) (λ j. let e : 0 + j ≡ j = omega arith in ap (slice_get (rows n)) e) (within n (ap (λ b. b || list_any (λ m. m == n) ns) (eq-eqb n n refl))))
    (moved_each s rows files ns (λ m e. within m (or_true (n == m) _ e)))
  where
    or_true : (a b : Bool) → b ≡ true → (a || b) ≡ true
    or_true true b e = refl
    or_true false b e = e

moved_place : (s : Layout) (n i : ℕ) (xs : List (List Value)) (p : Place) (j : ℕ) (row : List Value) → p.segment ≡ n → p.row ≡ i + j → slice_get xs j ≡ Some row
    → stands_in (map (λ e. e.place) (moved_in s n i xs)) p ≡ true
moved_place s n i [] p j row e f is = cc
moved_place s n i (x ∷ xs) p zero row e f is =
    let place : record { segment = n; row = i } ≡ p = λ t. record { segment = sym e t; row = back t } in
    ap (λ q. same_place p q || stands_in (map (λ e. e.place) (moved_in s n (i + 1) xs)) p) place ∙ ap (λ b. b || stands_in (map (λ e. e.place) (moved_in s n (i + 1) xs)) p) (same_place-same p)
  where
    back : i ≡ p.row
    back = omega arith
moved_place s n i (x ∷ xs) p (suc j) row e f is =
    or_true (same_place p (record { segment = n; row = i })) (stands_in (map (λ e. e.place) (moved_in s n (i + 1) xs)) p) (moved_place s n (i + 1) xs p j row e (omega arith) is)
  where
    or_true : (a b : Bool) → b ≡ true → (a || b) ≡ true
    or_true true b e = refl
    or_true false b e = e

moved_all : (s : Layout) (rows : Files) (ns : List ℕ) (p : Place) (row : List Value) → live rows (map all_live ns) p ≡ Some row → stands_in (map (λ e. e.place) (moved_to s rows ns)) p ≡ true
moved_all s rows [] p row is = cc
moved_all s rows (n ∷ ns) p row is =
    ap (λ ps. stands_in ps p) (map-append (λ e. e.place) (moved_in s n 0 (rows n)) (moved_to s rows ns))
    ∙ list_any-append (same_place p) (map (λ e. e.place) (moved_in s n 0 (rows n))) (map (λ e. e.place) (moved_to s rows ns))
    ∙ go (n == p.segment) refl is (moved_all s rows ns p row)
  where
    or_true : (a b : Bool) → b ≡ true → (a || b) ≡ true
    or_true true b e = refl
    or_true false b e = e

    go : (b : Bool) → (n == p.segment) ≡ b → cond b (slice_get (rows n) p.row) (live rows (map all_live ns) p) ≡ Some row
        → (live rows (map all_live ns) p ≡ Some row → stands_in (map (λ e. e.place) (moved_to s rows ns)) p ≡ true)
        → (stands_in (map (λ e. e.place) (moved_in s n 0 (rows n))) p || stands_in (map (λ e. e.place) (moved_to s rows ns)) p) ≡ true
    go true e is more =
        ap (λ b. b || stands_in (map (λ e. e.place) (moved_to s rows ns)) p)
        (moved_place s n 0 (rows n) p p.row row (sym (eqb-true n p.segment e)) (omega arith) is)
    go false e is more = or_true _ _ (more is)

moved_keys : (s : Layout) (n i : ℕ) (xs : List (List Value)) → map (λ e. e.key) (moved_in s n i xs) ≡ map (key_of s) xs
moved_keys s n i [] = refl
moved_keys s n i (x ∷ xs) = ap (λ ks. key_of s x ∷ ks) (moved_keys s n (i + 1) xs)

all_keys : (s : Layout) (rows : Files) (ns : List ℕ) → map (λ e. e.key) (moved_to s rows ns) ≡ map (key_of s) (written rows ns)
all_keys s rows [] = refl
all_keys s rows (n ∷ ns) =
    map-append (λ e. e.key) (moved_in s n 0 (rows n)) (moved_to s rows ns)
    ∙ ap (λ ks. ks ++ map (λ e. e.key) (moved_to s rows ns)) (moved_keys s n 0 (rows n))
    ∙ ap (λ ks. map (key_of s) (rows n) ++ ks) (all_keys s rows ns)
    ∙ sym (map-append (key_of s) (rows n) (written rows ns))

pub written_are_moved : WrittenAreMoved
written_are_moved s rows files = (record { each = moved_each s rows files files (λ n e. e); all = λ p row is. moved_all s rows files p row is }, all_keys s rows files)

abbrev no_rows : Rows
no_rows = empty

pub whole_load_written : WholeLoadWritten
whole_load_written s load rows files lawful whole_load wrote = whole_load_results s load (live rows (map all_live files)) lawful whole_load results named
  where
    left : Rows
    left = after s load empty

    none : (k : List Value) → get no_rows k ≡ None
    none k = get-empty key_cmp k

    nothing : (o : Option (List Value)) (row : List Value) → o ≡ None → o ≡ Some row → ⊥
    nothing o row e f = cc (sym e ∙ f)

    first : KeysStandFirst s (after s load empty)
    first = lawful-keeps-keys s load empty lawful (λ k row e. absurd (nothing (get no_rows k) row (none k) e))

    stands : StandsFor s (live rows (map all_live files)) (after s load empty)
    stands = written_stand s rows files (after s load empty) first wrote

    at : (k : List Value) → get (after s load empty) k ≡ result_for s load.given load.ops k None
    at k = one_result_per_key s load empty k ∙ ap (result_for s load.given load.ops k) (none k)

    results : (k row : List Value) → is_among (touches load.ops) k ≡ true → (result_for s load.given load.ops k None ≡ Some row) ↔ HasRow s (live rows (map all_live files)) k row
    results k row e = (λ is. (stands.same k row).0 (at k ∙ is), λ h. sym (at k) ∙ (stands.same k row).1 h)

    named : (p : Place) (k : List Value) → HasKey s (live rows (map all_live files)) p k → is_among (touches load.ops) k ≡ true
    named p k h = go (is_among (touches load.ops) k) refl
      where
        go : (b : Bool) → is_among (touches load.ops) k ≡ b → b ≡ true
        go true e = refl
        go false e = absurd (nothing (get (after s load empty) k) h.0 (at k ∙ unnamed s load.given load.ops k None e) ((stands.same k h.0).1 (p, h.1, h.2)))

numbered_written : (n : ℕ) (files : List (List (List Value))) (rows others : Files) → ((m : ℕ) → n ≤ m → others m ≡ with_files n files rows m) → written others (numbered n files) ≡ all_rows files
numbered_written n [] rows others same = refl
numbered_written n (file ∷ files) rows others same =
    ap (λ xs. xs ++ written others (numbered (n + 1) files)) (same n (omega arith) ∙ ap (λ b. cond b file (with_files (n + 1) files rows n)) (eq-eqb n n refl))
    ∙ ap (λ xs. file ++ xs) (numbered_written (n + 1) files rows others (λ m le. same m (omega arith) ∙ ap (λ b. cond b file (with_files (n + 1) files rows m)) (ne_eqb m n (λ e. omega arith))))

pub numbered_are_written : NumberedAreWritten
numbered_are_written n files rows = numbered_written n files rows (with_files n files rows) (λ m le. refl)

pub lower_files_stay : LowerFilesStay
lower_files_stay n m [] rows lt = refl
lower_files_stay n m (file ∷ files) rows lt =
    ap (λ b. cond b file (with_files (n + 1) files rows m)) (ne_eqb m n (λ e. omega arith)) ∙ lower_files_stay (n + 1) m files rows (omega arith)

unnumbered : (n m : ℕ) (files : List (List (List Value))) → m < n → names (map all_live (numbered n files)) m ≡ false
unnumbered n m [] lt = refl
unnumbered n m (file ∷ files) lt = ap (λ b. b || names (map all_live (numbered (n + 1) files)) m) (ne_eqb n m (λ e. omega arith)) ∙ unnumbered (n + 1) m files (omega arith)

numbered_once : (n : ℕ) (files : List (List (List Value))) → FilesOnce (map all_live (numbered n files))
numbered_once n [] = tt
numbered_once n (file ∷ files) = (unnumbered (n + 1) n files (omega arith), numbered_once (n + 1) files)

pub numbered_are_new : NumberedAreNew
numbered_are_new n files parts below = ((λ m named. unnumbered n m files (below m named)), numbered_once n files)
