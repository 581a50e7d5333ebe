-- Rows of keys that moved, made again one after the other.
use Rattle.std.proofs.Common.{◌≡◌, refl, ap, sym, subst, ◌∙◌, ℕ, zero, suc, ◌+◌, ◌<◌, ◌≤◌, List, [], ◌∷◌, ◌++◌, map, take, get_or, length, Option, Some, None, option_to_list, Bool as Truth, true, false, ◌&&◌, cond, T, append-nil, append_assoc, arith}
use Rattle.std.specs.Prelude.{All, IfSome, IsTrue}
use Rattle.std.specs.List.{AllByRecursion, filter}
use Rattle.std.specs.FinMap.{get}
use Rattle.std.specs.Ordering.{is_lt}
use Rattle.std.specs.declared.cmp.Ordering.{Ordering}
use Rattle.std.specs.declared.cmp.Ordering.TheVariants.{Less, Equal, Greater}
use Rattle.std.proofs.lemmas.List.{length-append, map-append}
use Rattle.key_code.specs.KeyCode.{key_code}
use Rattle.pk_values.specs.Order.{key_cmp}
use Rattle.pk_values.specs.OrderFacts.{key_total}
use Rattle.pk_values.specs.Schemas.{Layout, fits_row, key_of, schema_fault}
use Rattle.pk_values.specs.declared.cells.Value.{Value}
use Rattle.pk_model.proofs.RunLaws as run
use Rattle.pk_model.specs.Lawful.{IsLawful}
use Rattle.pk_model.specs.Tables.{Rows}
use Rattle.pk_model.specs.declared.calls.Load.{Load}
use Rattle.segment_form.specs.Segments.{KeysRise}
use Rattle.rowsets.specs.Indexing.{CodeMove, code_moves}
use Rattle.rowsets.specs.Scans.{RowsRise}
use Rattle.index_level0.specs.declared.place.Place.{Place}
use Rattle.tablet_state.specs.Contents.{Contents}
use Rattle.tablet_state.specs.State.{SegmentView}
use Rattle.partial_loads.specs.declared.folds.Folded.{Folded}
use Rattle.partial_loads.specs.Folded.{HasCode, rise_strictly}
use Rattle.partial_loads.specs.Folds.{apply}
use Rattle.partial_loads.specs.Making.{HaveChanges, made_rows}
use Rattle.partial_loads.specs.Olds.{AreOlds, made_of as rows_made}
use Rattle.partial_loads.proofs.FoldedFacts.{skip-first}
use Rattle.partial_loads.proofs.OldFacts.{fit, key-is, rises}
use Rattle.tablet_state.specs.Readies.{NewSegment}
use Rattle.core_publish.specs.Prepared.{AreSealedOf, files_of, moves_to}
use Rattle.core_publish.specs.Results.{KeyResult, place_at, placed, rows_left}
use Rattle.core_publish.proofs.PlaceFacts.{entries-are}
use Rattle.core_publish.proofs.ResultFacts.{AllAbove, AllRise, keys_of}
use Rattle.core_partial.specs.Again.{AreRemade, Remakes, RemakesKey, RemakesMore, results_of, row_made}
use Rattle.core_partial.specs.Moving.{AreOldsNow, IsAgain, IsMadeOfNow, IsOldAt, IsOldNow, asked_now, is_moved_key, made_places, moved_keys}
use Rattle.core_partial.specs.Prepared.{AgainView, folded_of}
use Rattle.core_partial.specs.Results.{place_for}
use Rattle.core_partial.specs.declared.again.Remade.{Remade}
use Rattle.core_partial.specs.declared.keys.PreparedKey.{PreparedKey}
use Rattle.core_partial.proofs.ChangeFacts.{AreCoded}
use Rattle.core_partial.proofs.LoopFacts.{front-more}
use Rattle.core_partial.proofs.SubFacts.{keys_in}

abbrev Row : Type 0
Row = List Value

-- ---- lists that grow

pub filter-append : {X : Type 0} (test : X → Truth) (xs ys : List X) → filter test (xs ++ ys) ≡ filter test xs ++ filter test ys
filter-append test [] ys = refl
filter-append test (x ∷ xs) ys = go (test x) (filter-append test xs ys)
  where
    go : (t : Truth) → filter test (xs ++ ys) ≡ filter test xs ++ filter test ys → cond t (x ∷ filter test (xs ++ ys)) (filter test (xs ++ ys)) ≡ cond t (x ∷ filter test xs) (filter test xs) ++ filter test ys
    go true e = ap (λ zs. x ∷ zs) e
    go false e = e

pub olds-more : (s : Layout) (fs : List Folded) (os : List (Option Row)) (f : Folded) (o : Option Row) → AreOlds s fs os → IfSome o (λ row. IsTrue (fits_row s row) × (key_of s row ≡ f.key)) → AreOlds s (fs ++ f ∷ []) (os ++ o ∷ [])
olds-more s [] [] f o h g = (g, tt)
olds-more s [] (x ∷ os) f o h g = absurd h
olds-more s (x ∷ fs) [] f o h g = absurd h
olds-more s (x ∷ fs) (y ∷ os) f o h g = (h.0, olds-more s fs os f o h.1 g)

pub made-more : (s : Layout) (given : List ℕ) (fs : List Folded) (os : List (Option Row)) (f : Folded) (o : Option Row) → AreOlds s fs os
    → rows_made s given (fs ++ f ∷ []) (os ++ o ∷ []) ≡ rows_made s given fs os ++ option_to_list (apply s given None f.key f.change o)
made-more s given [] [] f o h = append-nil (option_to_list (apply s given None f.key f.change o))
made-more s given [] (x ∷ os) f o h = absurd h
made-more s given (x ∷ fs) [] f o h = absurd h
made-more s given (x ∷ fs) (y ∷ os) f o h =
    ap (λ rows. option_to_list (apply s given None x.key x.change y) ++ rows) (made-more s given fs os f o h.1)
    ∙ sym (append_assoc (option_to_list (apply s given None x.key x.change y)) (rows_made s given fs os) (option_to_list (apply s given None f.key f.change o)))

pub results-more : (s : Layout) (given : List ℕ) (ks : List PreparedKey) (os : List (Option Row)) (k : PreparedKey) (o : Option Row) → AreOlds s (map folded_of ks) os
    → results_of s given (ks ++ k ∷ []) (os ++ o ∷ []) ≡ results_of s given ks os ++ (k.key, row_made s given k o) ∷ []
results-more s given [] [] k o h = refl
results-more s given [] (x ∷ os) k o h = absurd h
results-more s given (x ∷ ks) [] k o h = absurd h
results-more s given (x ∷ ks) (y ∷ os) k o h = ap (λ rs. (x.key, row_made s given x y) ∷ rs) (results-more s given ks os k o h.1)

pub left-made : (s : Layout) (given : List ℕ) (ks : List PreparedKey) (os : List (Option Row)) → rows_left (results_of s given ks os) ≡ rows_made s given (map folded_of ks) os
left-made s given [] os = refl
left-made s given (k ∷ ks) [] = refl
left-made s given (k ∷ ks) (o ∷ os) = go (row_made s given k o) (left-made s given ks os)
  where
    go : (row : Option Row) → rows_left (results_of s given ks os) ≡ rows_made s given (map folded_of ks) os
        → rows_left ((k.key, row) ∷ results_of s given ks os) ≡ option_to_list row ++ rows_made s given (map folded_of ks) os
    go None e = e
    go (Some row) e = ap (λ rows. row ∷ rows) e

pub placed-more : (s : Layout) (i : ℕ) (rs : List KeyResult) (key : List Value) (row : Option Row) → placed s i (rs ++ (key, row) ∷ []) ≡ placed s i rs ++ (key_code s key, place_for (i + length (rows_left rs)) row) ∷ []
placed-more s i [] key None = refl
placed-more s i [] key (Some row) = let e : i ≡ i + 0 = omega arith in ap (λ n. (key_code s key, Some (place_at n)) ∷ []) e
placed-more s i ((k, None) ∷ rs) key row = ap (λ es. (key_code s k, None) ∷ es) (placed-more s i rs key row)
placed-more s i ((k, Some x) ∷ rs) key row =
    let e : i + 1 + length (rows_left rs) ≡ i + suc (length (rows_left rs)) = omega arith in
    ap (λ es. (key_code s k, Some (place_at i)) ∷ es) (placed-more s (i + 1) rs key row ∙ ap (λ n. placed s (i + 1) rs ++ (key_code s key, place_for n row) ∷ []) e)

places-more : (ks : List PreparedKey) (k : PreparedKey) → made_places (ks ++ k ∷ []) ≡ made_places ks ++ option_to_list k.made
places-more [] k = append-nil (option_to_list k.made)
places-more (x ∷ ks) k = ap (λ ps. option_to_list x.made ++ ps) (places-more ks k) ∙ sym (append_assoc (option_to_list x.made) (made_places ks) (option_to_list k.made))

pub rows-append : (s : Layout) (given : List ℕ) (m : Rows) (fs gs : List Folded) → made_rows s given m (fs ++ gs) ≡ made_rows s given m fs ++ made_rows s given m gs
rows-append s given m [] gs = refl
rows-append s given m (f ∷ fs) gs =
    ap (λ rows. option_to_list (apply s given None f.key f.change (get m f.key)) ++ rows) (rows-append s given m fs gs)
    ∙ sym (append_assoc (option_to_list (apply s given None f.key f.change (get m f.key))) (made_rows s given m fs) (made_rows s given m gs))

-- ---- one key more

-- old rows now, of one key more
now-more : (c : Contents) (segs : List SegmentView) (ks : List PreparedKey) (os : List (Option Row)) (k : PreparedKey) (o : Option Row) → AreOldsNow c segs ks os → IsOldNow c segs k o
    → AreOldsNow c segs (ks ++ k ∷ []) (os ++ o ∷ [])
now-more c segs [] [] k o h g = (g, tt)
now-more c segs [] (x ∷ os) k o h g = absurd h
now-more c segs (x ∷ ks) [] k o h g = absurd h
now-more c segs (x ∷ ks) (y ∷ os) k o h g = (h.0, now-more c segs ks os k o h.1 g)

old-fits : (c : Contents) (segs : List SegmentView) (key : List Value) (at : Option Place) (o : Option Row) → IsOldAt c segs key at o → IfSome o (λ row. IsTrue (fits_row c.schema row) × (key_of c.schema row ≡ key))
old-fits c segs key None o h = subst (λ (x : Option Row). IfSome x (λ row. IsTrue (fits_row c.schema row) × (key_of c.schema row ≡ key))) (sym h) tt
old-fits c segs key (Some p) o h = subst (λ (x : Option Row). IfSome x (λ row. IsTrue (fits_row c.schema row) × (key_of c.schema row ≡ key))) (sym h.1) (h.2.fits, h.2.key_is)

-- they fit
pub now-fit : (c : Contents) (segs : List SegmentView) (ks : List PreparedKey) (os : List (Option Row)) → AreOldsNow c segs ks os → AreOlds c.schema (map folded_of ks) os
now-fit c segs [] [] h = tt
now-fit c segs [] (o ∷ os) h = absurd h
now-fit c segs (k ∷ ks) [] h = absurd h
now-fit c segs (k ∷ ks) (o ∷ os) h = (old-fits c segs k.key (asked_now c k) o h.0, now-fit c segs ks os h.1)

one-more : (c : Contents) (segs : List SegmentView) (given : List ℕ) (ks : List PreparedKey) (k : PreparedKey) (old new : Remade) → HasCode c.schema (folded_of k) → AreRemade c segs given ks old
    → RemakesKey c segs given k old new → AreRemade c segs given (ks ++ k ∷ []) new
one-more c segs given ks k old new code are is =
    let s : Layout = c.schema in
    let fit : AreOlds s (map folded_of ks) are.olds = now-fit c segs ks are.olds are.are in
    let long : length old.results.rows.items ≡ length (rows_left (results_of s given ks are.olds)) = ap length are.rows ∙ ap length (sym (left-made s given ks are.olds)) in
    let as_many : length old.results.rows.items ≡ 0 + length (rows_left (results_of s given ks are.olds)) = omega (arith, long) in
    let folds : map folded_of (ks ++ k ∷ []) ≡ map folded_of ks ++ folded_of k ∷ [] = map-append folded_of ks (k ∷ []) in
    record {
      olds = are.olds ++ is.row ∷ [];
      are = now-more c segs ks are.olds k is.row are.are is.is;
      rows = is.rows ∙ ap (λ rows. rows ++ option_to_list (row_made s given k is.row)) are.rows ∙ sym (made-more s given (map folded_of ks) are.olds (folded_of k) is.row fit)
          ∙ ap (λ (fs : List Folded). rows_made s given fs (are.olds ++ is.row ∷ [])) (sym folds);
      moves = is.moves ∙ (λ i. are.moves i ++ (code.code i, place_for (as_many i) (row_made s given k is.row)) ∷ [])
          ∙ sym (placed-more s 0 (results_of s given ks are.olds) k.key (row_made s given k is.row)) ∙ ap (placed s 0) (sym (results-more s given ks are.olds k is.row fit));
      stale = is.stale ∙ ap (λ ps. ps ++ option_to_list k.made) are.stale ∙ sym (places-more ks k);
    }

pub remade-more : (c : Contents) (segs : List SegmentView) (given : List ℕ) (v : ℕ) (ks : List PreparedKey) (k : PreparedKey) (old new : Remade) → HasCode c.schema (folded_of k) → AreRemade c segs given (moved_keys c v ks) old
    → RemakesMore c segs given v k old new → AreRemade c segs given (moved_keys c v (ks ++ k ∷ [])) new
remade-more c segs given v ks k old new code are more =
    subst (λ (xs : List PreparedKey). AreRemade c segs given xs new) (sym (filter-append (is_moved_key c v) ks (k ∷ []))) (go (is_moved_key c v k) more)
  where
    go : (t : Truth) → Remakes t c segs given k old new → AreRemade c segs given (moved_keys c v ks ++ cond t (k ∷ []) []) new
    go true is = one-more c segs given (moved_keys c v ks) k old new code are is
    go false same = subst (λ (r : Remade). AreRemade c segs given (moved_keys c v ks ++ []) r) (sym same)
        (subst (λ (xs : List PreparedKey). AreRemade c segs given xs old) (sym (append-nil (moved_keys c v ks))) are)

pub over-more : (s : Layout) (given : List ℕ) (c : Contents) (v : ℕ) (m : Rows) (ks : List PreparedKey) (k : PreparedKey) (old new : List Row) → old ≡ made_rows s given m (map folded_of (moved_keys c v ks))
    → new ≡ old ++ made_rows s given m (map folded_of (moved_keys c v (k ∷ []))) → new ≡ made_rows s given m (map folded_of (moved_keys c v (ks ++ k ∷ [])))
over-more s given c v m ks k old new was more =
    more ∙ ap (λ rows. rows ++ made_rows s given m (map folded_of (moved_keys c v (k ∷ [])))) was
    ∙ sym (rows-append s given m (map folded_of (moved_keys c v ks)) (map folded_of (moved_keys c v (k ∷ []))))
    ∙ ap (made_rows s given m) (sym (map-append folded_of (moved_keys c v ks) (moved_keys c v (k ∷ [])))) ∙ ap (λ (xs : List PreparedKey). made_rows s given m (map folded_of xs)) (sym (filter-append (is_moved_key c v) ks (k ∷ [])))

pub long-more : (c : Contents) (v : ℕ) (ks : List PreparedKey) (k : PreparedKey) → length (moved_keys c v (ks ++ k ∷ [])) ≡ length (moved_keys c v ks) + length (moved_keys c v (k ∷ []))
long-more c v ks k = ap length (filter-append (is_moved_key c v) ks (k ∷ [])) ∙ length-append (moved_keys c v ks) (moved_keys c v (k ∷ []))

-- ---- all of them

is_less : (o : Ordering) → is_lt o ≡ true → o ≡ Less
is_less Less e = refl
is_less Equal e = cc
is_less Greater e = cc

less-of : (a b : List Value) (ks : List (List Value)) → T (rise_strictly (a ∷ b ∷ ks)) → key_cmp a b ≡ Less
less-of a b ks h = is_less (key_cmp a b) (true_of (is_lt (key_cmp a b)) (run.first (is_lt (key_cmp a b)) (rise_strictly (b ∷ ks)) h))
  where
    true_of : (t : Truth) → T t → t ≡ true
    true_of true h = refl
    true_of false h = absurd h

above-all : (s : Layout) (given : List ℕ) (j : List Value) (ks : List PreparedKey) (os : List (Option Row)) → T (rise_strictly (j ∷ keys_in ks)) → AllAbove j (results_of s given ks os)
above-all s given j [] os h = tt
above-all s given j (k ∷ ks) [] h = tt
above-all s given j (k ∷ ks) (o ∷ os) h = (less-of j k.key (keys_in ks) h, above-all s given j ks os (skip-first j k.key (keys_in ks) h))

rest-of : (k : List Value) (ks : List PreparedKey) → T (rise_strictly (k ∷ keys_in ks)) → T (rise_strictly (keys_in ks))
rest-of k [] h = tt
rest-of k (j ∷ ks) h = run.second (is_lt (key_cmp k j.key)) (rise_strictly (keys_in (j ∷ ks))) h

pub all-rise : (s : Layout) (given : List ℕ) (ks : List PreparedKey) (os : List (Option Row)) → T (rise_strictly (keys_in ks)) → AllRise (results_of s given ks os)
all-rise s given [] os h = tt
all-rise s given (k ∷ ks) [] h = tt
all-rise s given (k ∷ ks) (o ∷ os) h = (above-all s given k.key ks os h, all-rise s given ks os (rest-of k.key ks h))

abbrev OwnAll : Layout → List KeyResult → Type 0
OwnAll s rs = AllByRecursion (λ r. (row : Row) → r.1 ≡ Some row → key_of s row ≡ r.0) rs

pub own-all : (s : Layout) (load : Load) → schema_fault s.columns s.keys ≡ None → IsLawful s load → (ks : List PreparedKey) (os : List (Option Row)) → HaveChanges load (map folded_of ks) → AreCoded s ks
    → AreOlds s (map folded_of ks) os → OwnAll s (results_of s load.given ks os)
own-all s load clean lawful [] os have coded olds = tt
own-all s load clean lawful (k ∷ ks) [] have coded olds = tt
own-all s load clean lawful (k ∷ ks) (o ∷ os) have coded olds =
    (λ row e. key-is s load clean lawful (folded_of k) o row have.0 coded.0 olds.0 e, own-all s load clean lawful ks os have.1 coded.1 olds.1)

pub same-keys : (s : Layout) (given : List ℕ) (ks : List PreparedKey) (os : List (Option Row)) → AreOlds s (map folded_of ks) os → keys_of (results_of s given ks os) ≡ keys_in ks
same-keys s given [] os h = refl
same-keys s given (k ∷ ks) [] h = absurd h
same-keys s given (k ∷ ks) (o ∷ os) h = ap (λ keys. k.key ∷ keys) (same-keys s given ks os h.1)

pub keys-rise : (s : Layout) (rows : List Row) → RowsRise s rows → KeysRise s rows
keys-rise s [] h = tt
keys-rise s (a ∷ []) h = tt
keys-rise s (a ∷ b ∷ rows) h = (h.0, keys-rise s (b ∷ rows) h.1)

pub all-coded : (s : Layout) (ks : List PreparedKey) → AreCoded s ks → AllByRecursion (HasCode s) (map folded_of ks)
all-coded s [] h = tt
all-coded s (k ∷ ks) h = (h.0, all-coded s ks h.1)

module _ (c : Contents) (segs : List SegmentView) (load : Load) (clean : schema_fault c.schema.columns c.schema.keys ≡ None) (lawful : IsLawful c.schema load) (ks : List PreparedKey)
    (have : HaveChanges load (map folded_of ks)) (coded : AreCoded c.schema ks) (rise : T (rise_strictly (keys_in ks))) (remade : Remade) (are : AreRemade c segs load.given ks remade) where
  abbrev s : Layout
  s = c.schema

  are-fit : AreOlds s (map folded_of ks) are.olds
  are-fit = now-fit c segs ks are.olds are.are

  -- the rows can be written, and the moves tell where they stand then
  pub rows-fit : All (λ row. IsTrue (fits_row s row)) remade.results.rows.items
  rows-fit = subst (All (λ row. IsTrue (fits_row s row))) (sym are.rows) (fit s load clean lawful (map folded_of ks) are.olds have (all-coded s ks coded) are-fit)

  pub rows-rise : KeysRise s remade.results.rows.items
  rows-rise = subst (KeysRise s) (sym are.rows) (keys-rise s (rows_made s load.given (map folded_of ks) are.olds) (rises s load clean lawful (map folded_of ks) are.olds rise have (all-coded s ks coded) are-fit))

  pub moves-are : remade.results.moves.items ≡ code_moves (key_code s) (moves_to s 0 (files_of remade.results.rows.items) (keys_in ks))
  moves-are =
      are.moves
      ∙ entries-are s (results_of s load.given ks are.olds) remade.results.rows.items (are.rows ∙ sym (left-made s load.given ks are.olds)) (all-rise s load.given ks are.olds rise) (own-all s load clean lawful ks are.olds have coded are-fit)
      ∙ ap (λ keys. code_moves (key_code s) (moves_to s 0 (files_of remade.results.rows.items) keys)) (same-keys s load.given ks are.olds are-fit)

pub long-front : {X : Type 0} (test : X → Truth) (xs : List X) (n : ℕ) → length (filter test (take n xs)) ≤ length (filter test xs)
long-front test [] zero = omega arith
long-front test [] (suc n) = omega arith
long-front test (x ∷ xs) zero = omega arith
long-front test (x ∷ xs) (suc n) = go (test x) (long-front test xs n)
  where
    go : (t : Truth) → length (filter test (take n xs)) ≤ length (filter test xs) → length (cond t (x ∷ filter test (take n xs)) (filter test (take n xs))) ≤ length (cond t (x ∷ filter test xs) (filter test xs))
    go true le = omega arith
    go false le = le

pub front-one : (c : Contents) (v : ℕ) (ks : List PreparedKey) (i : ℕ) (k : PreparedKey) → i < length ks → k ≡ get_or ks i k
    → length (moved_keys c v (take i ks)) + length (moved_keys c v (k ∷ [])) ≤ length (moved_keys c v ks)
front-one c v ks i k lt is =
    let next = long-more c v (take i ks) k in
    let front = ap (λ (xs : List PreparedKey). length (moved_keys c v xs)) (front-more ks i k lt is) in
    let most = long-front (is_moved_key c v) ks (i + 1) in
    omega (arith, next, front, most)

pub is-again : (c : Contents) (segs : List SegmentView) (load : Load) → schema_fault c.schema.columns c.schema.keys ≡ None → IsLawful c.schema load → (ks : List PreparedKey) → HaveChanges load (map folded_of ks)
    → AreCoded c.schema ks → T (rise_strictly (keys_in ks)) → (remade : Remade) → AreRemade c segs load.given ks remade → (again : AgainView) (files : List NewSegment) → again.moves ≡ remade.results.moves.items → again.stale ≡ remade.stale.items
    → again.rows ≡ remade.results.rows.items → again.files ≡ files → AreSealedOf c.schema (files_of remade.results.rows.items) files → IsAgain c.schema ks again
is-again c segs load clean lawful ks have coded rise remade are again files moves stale rows kept sealed = record {
  files = record {
    sealed = subst (λ (rs : List Row). AreSealedOf c.schema (files_of rs) again.files) (sym rows) (subst (AreSealedOf c.schema (files_of remade.results.rows.items)) (sym kept) sealed);
    moves_are = moves ∙ moves-are c segs load clean lawful ks have coded rise remade are ∙ ap (λ (rs : List Row). code_moves (key_code c.schema) (moves_to c.schema 0 (files_of rs) (keys_in ks))) (sym rows);
  };
  stale_are = stale ∙ are.stale;
}

pub made-of-now : (c : Contents) (segs : List SegmentView) (given : List ℕ) (ks : List PreparedKey) (remade : Remade) (again : AgainView) → AreRemade c segs given ks remade → again.rows ≡ remade.results.rows.items
    → IsMadeOfNow c segs given ks again
made-of-now c segs given ks remade again are rows = record { olds = are.olds; are = are.are; rows_are = rows ∙ are.rows }
