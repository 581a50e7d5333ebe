-- The old rows that are read of what was found are those of the map for which it stands.
use Rattle.std.proofs.Common.{◌≡◌, inl, inr, refl, ap, sym, subst, ◌∙◌, ℕ, zero, suc, ◌+◌, ◌<◌, List, [], ◌∷◌, map, length, Option, Some, None, Bool as Truth, true, false, ◌||◌, ◌&&◌, cond, slice_get, IfSome, T, arith}
use Rattle.std.specs.Prelude.{All, IsTrue, ◌⊎◌}
use Rattle.std.specs.List.{AllByRecursion}
use Rattle.std.specs.FinMap.{get}
use Rattle.std.specs.Cmp.{eq_by_cmp_equiv}
use Rattle.std.specs.Ordering.{eq_by_cmp, is_lt}
use Rattle.pk_model.proofs.RunLaws as run
use Rattle.std.proofs.lemmas.Cmp.{nat_list_cmp_total}
use Rattle.std.proofs.lemmas.Map.Lookups.{exact_bytes}
use Rattle.std.proofs.lemmas.Map.Views.{tells_apart}
use Rattle.dev_traits.specs.declared.faults.Damaged.{Damaged}
use Rattle.index_level0.specs.declared.place.Place.{Place}
use Rattle.key_code.specs.KeyCode.{key_code}
use Rattle.pk_values.specs.Order.{key_cmp}
use Rattle.pk_values.specs.OrderFacts.{key_total}
use Rattle.pk_values.specs.Schemas.{Layout, fits_key, fits_row, key_of, schema_fault}
use Rattle.pk_values.specs.declared.cells.Value.{Value}
use Rattle.pk_model.specs.Tables.{Rows, touches}
use Rattle.rowsets.specs.Live.{Files, HasKey, Live, is_among, live}
use Rattle.rowsets.specs.Indexing.{CodeMove, TellsKeys, code_cmp, place_stored}
use Rattle.rowsets.proofs.StepFacts.{key_codes_tell}
use Rattle.snapshot_scan.specs.Parts.{IsPieceOf, PartView}
use Rattle.snapshot_scan.specs.Snapshots.{SnapshotView}
use Rattle.partial_loads.specs.declared.folds.Folded.{Folded}
use Rattle.partial_loads.specs.Folded.{AreFolded, HasCode, folded_keys, rise_strictly}
use Rattle.partial_loads.specs.Folds.{change_at, overlays}
use Rattle.partial_loads.specs.Lines.{IsShortKey}
use Rattle.partial_loads.specs.Moves.{IsPlaceOf}
use Rattle.partial_loads.specs.Olds.{AreOlds, AreOldsOf}
use Rattle.partial_loads.proofs.FoldedFacts.{not-among}
use Rattle.partial_loads.proofs.MakeFacts.{one_key_list, folded_have_changes}
use Rattle.partial_loads.proofs.MoveFacts.{no-place}
use Rattle.old_rows.specs.Reading.{AreOldsRead, IsBroken, IsLost, IsOldRow, Olds, ReadBlocks, ReadsAsked, TellsReadDamage, TellsRows, live_at}
use Rattle.old_rows.specs.Wanted.{IsWanted, asked}
use Rattle.old_rows.specs.declared.wanted.Wanted.{Wanted}
use Rattle.core_partial.specs.Found.{AreKeysOf, AreTold, FoundView, IsFoundOf, IsLocated, codes_of, part_seen}
use Rattle.core_partial.specs.Preparing.{AsksFor, IsFoundDamage, ReadsFound}

abbrev Row : Type 0
Row = List Value

some_same : {X : Type 0} (x y : X) → Some x ≡ Some y → x ≡ y
some_same x y e = cc

none_some : {X : Type 0} (x : X) → None ≡ Some x → ⊥
none_some x e = cc

clash : (b : Truth) → b ≡ true → b ≡ false → ⊥
clash b e f = cc (sym e ∙ f)

-- ---- the codes of the keys

codes-are : (s : Layout) (fs : List Folded) → AllByRecursion (HasCode s) fs → map (λ (f : Folded). f.code) fs ≡ map (key_code s) (folded_keys fs)
codes-are s [] h = refl
codes-are s (f ∷ fs) h = λ i. h.0.code i ∷ codes-are s fs h.1 i

-- the keys that are folded have the codes that were located
pub same-codes : (f : FoundView) (fs : List Folded) → IsLocated f.snapshot.schema f.load f.located → AreFolded f.snapshot.schema f.load.given None f.load.ops fs
    → codes_of f.located ≡ map (key_code f.snapshot.schema) (folded_keys fs)
same-codes f fs located folds =
    located.keys.codes_are
    ∙ ap (map (key_code f.snapshot.schema)) (one_key_list located.keys.keys (folded_keys fs) located.keys.rise folds.rise (λ k. located.keys.named k ∙ sym (folds.named k)))

length-map : {X Y : Type 0} (f : X → Y) (xs : List X) → length (map f xs) ≡ length xs
length-map f [] = refl
length-map f (x ∷ xs) = ap suc (length-map f xs)

pub as-many : (f : FoundView) (fs : List Folded) → IsLocated f.snapshot.schema f.load f.located → AreFolded f.snapshot.schema f.load.given None f.load.ops fs → length f.located ≡ length fs
as-many f fs located folds =
    sym (length-map (λ (e : CodeMove). e.0) f.located) ∙ ap length (same-codes f fs located folds) ∙ length-map (key_code f.snapshot.schema) (folded_keys fs) ∙ length-map (λ (g : Folded). g.key) fs

pub code-of-each : (s : Layout) (fs : List Folded) → AllByRecursion (HasCode s) fs → map (λ (f : Folded). f.code) fs ≡ map (key_code s) (folded_keys fs)
code-of-each s fs h = codes-are s fs h

-- ---- the place that is stored for a key

head-same : (a b : List ℕ) (xs ys : List (List ℕ)) → a ∷ xs ≡ b ∷ ys → a ≡ b
head-same a b xs ys e = cc

tail-same : (a b : List ℕ) (xs ys : List (List ℕ)) → a ∷ xs ≡ b ∷ ys → xs ≡ ys
tail-same a b xs ys e = cc

module _ (s : Layout) (tells : TellsKeys (fits_key s) (key_code s)) where
  stored-past : (es : List CodeMove) (fs : List Folded) (k : List Value) (old : Option Place) → codes_of es ≡ map (key_code s) (folded_keys fs) → AllByRecursion (HasCode s) fs
      → fits_key s k ≡ true → is_among (folded_keys fs) k ≡ false → place_stored es (key_code s k) old ≡ old
  stored-past [] fs k old e coded fits other = refl
  stored-past (x ∷ es) [] k old e coded fits other = cc
  stored-past (x ∷ es) (f ∷ fs) k old e coded fits other =
      ap (λ t. place_stored es (key_code s k) (cond t x.1 old)) (apart (eq_by_cmp code_cmp (key_code s k) x.0) refl)
      ∙ stored-past es fs k old (tail-same x.0 (key_code s f.key) (codes_of es) (map (key_code s) (folded_keys fs)) e) coded.1 fits (rest (eq_by_cmp key_cmp k f.key) refl other)
    where
      rest : (t : Truth) → eq_by_cmp key_cmp k f.key ≡ t → (t || is_among (folded_keys fs) k) ≡ false → is_among (folded_keys fs) k ≡ false
      rest true g h = cc
      rest false g h = h

      apart : (t : Truth) → eq_by_cmp code_cmp (key_code s k) x.0 ≡ t → t ≡ false
      apart false g = refl
      apart true g =
          let codes : key_code s k ≡ key_code s f.key = tells_apart exact_bytes (key_code s k) x.0 g ∙ head-same x.0 (key_code s f.key) (codes_of es) (map (key_code s) (folded_keys fs)) e in
          let same : k ≡ f.key = tells k f.key fits coded.0.key.fits codes in
          absurd (clash (is_among (folded_keys (f ∷ fs)) k) (ap (λ t. t || is_among (folded_keys fs) k) (ap (eq_by_cmp key_cmp k) (sym same) ∙ (eq_by_cmp_equiv key_total).refl k)) other)

  rest-of : (k : List Value) (ks : List (List Value)) → T (rise_strictly (k ∷ ks)) → T (rise_strictly ks)
  rest-of k [] h = tt
  rest-of k (j ∷ ks) h = run.second (is_lt (key_cmp k j)) (rise_strictly (j ∷ ks)) h

  pub stored-at : (es : List CodeMove) (fs : List Folded) (i : ℕ) (f : Folded) (e : CodeMove) (old : Option Place) → codes_of es ≡ map (key_code s) (folded_keys fs) → AllByRecursion (HasCode s) fs
      → T (rise_strictly (folded_keys fs)) → slice_get fs i ≡ Some f → slice_get es i ≡ Some e → place_stored es (key_code s f.key) old ≡ e.1
  stored-at [] fs i f e old codes coded rise there at = cc
  stored-at (x ∷ es) [] i f e old codes coded rise there at = cc
  stored-at (x ∷ es) (g ∷ fs) zero f e old codes coded rise there at =
      let key : g ≡ f = some_same g f there in
      let entry : x ≡ e = some_same x e at in
      let code : x.0 ≡ key_code s f.key = head-same x.0 (key_code s g.key) (codes_of es) (map (key_code s) (folded_keys fs)) codes ∙ ap (λ (h : Folded). key_code s h.key) key in
      let itself : eq_by_cmp code_cmp (key_code s f.key) x.0 ≡ true = ap (eq_by_cmp code_cmp (key_code s f.key)) code ∙ (eq_by_cmp_equiv nat_list_cmp_total).refl (key_code s f.key) in
      ap (λ t. place_stored es (key_code s f.key) (cond t x.1 old)) itself
      ∙ stored-past es fs f.key x.1 (tail-same x.0 (key_code s g.key) (codes_of es) (map (key_code s) (folded_keys fs)) codes) coded.1
      (ap (λ (h : Folded). fits_key s h.key) (sym key) ∙ coded.0.key.fits)
      (ap (λ (h : Folded). is_among (folded_keys fs) h.key) (sym key) ∙ not-among g.key (folded_keys fs) rise)
      ∙ ap (λ (c : CodeMove). c.1) entry
  stored-at (x ∷ es) (g ∷ fs) (suc i) f e old codes coded rise there at =
      stored-at es fs i f e (cond (eq_by_cmp code_cmp (key_code s f.key) x.0) x.1 old) (tail-same x.0 (key_code s g.key) (codes_of es) (map (key_code s) (folded_keys fs)) codes) coded.1
      (rest-of g.key (folded_keys fs) rise) there at

-- ---- old rows, by their keys

pub olds-fit : (s : Layout) (fs : List Folded) (os : Olds) → length os ≡ length fs
    → ((i : ℕ) (f : Folded) (row : Row) → slice_get fs i ≡ Some f → slice_get os i ≡ Some (Some row) → IsTrue (fits_row s row) × (key_of s row ≡ f.key)) → AreOlds s fs os
olds-fit s [] [] long h = tt
olds-fit s [] (o ∷ os) long h = absurd (omega arith)
olds-fit s (f ∷ fs) [] long h = absurd (omega arith)
olds-fit s (f ∷ fs) (o ∷ os) long h = (one o refl, olds-fit s fs os (omega arith) (λ i. h (suc i)))
  where
    one : (p : Option Row) → o ≡ p → IfSome p (λ row. IsTrue (fits_row s row) × (key_of s row ≡ f.key))
    one None e = tt
    one (Some row) e = h 0 f row refl (ap Some e)

olds-of : (m : Rows) (fs : List Folded) (os : Olds) → length os ≡ length fs
    → ((i : ℕ) (f : Folded) (o : Option Row) → slice_get fs i ≡ Some f → slice_get os i ≡ Some o → overlays f.change ≡ true → o ≡ get m f.key) → AreOldsOf m fs os
olds-of m [] [] long h = tt
olds-of m [] (o ∷ os) long h = absurd (omega arith)
olds-of m (f ∷ fs) [] long h = absurd (omega arith)
olds-of m (f ∷ fs) (o ∷ os) long h = (h 0 f o refl refl, olds-of m fs os (omega arith) (λ i. h (suc i)))

among-at : (fs : List Folded) (i : ℕ) (f : Folded) → slice_get fs i ≡ Some f → is_among (folded_keys fs) f.key ≡ true
among-at [] i f h = cc
among-at (g ∷ fs) zero f h =
    let same : g ≡ f = some_same g f h in
    ap (λ t. t || is_among (folded_keys fs) f.key) (ap (λ (x : Folded). eq_by_cmp key_cmp f.key x.key) same ∙ (eq_by_cmp_equiv key_total).refl f.key)
among-at (g ∷ fs) (suc i) f h = ap (λ t. eq_by_cmp key_cmp f.key g.key || t) (among-at fs i f h) ∙ or_true (eq_by_cmp key_cmp f.key g.key)
  where
    or_true : (a : Truth) → (a || true) ≡ true
    or_true true = refl
    or_true false = refl

entry-at : {X Y : Type 0} (xs : List X) (ys : List Y) (i : ℕ) (x : X) → length ys ≡ length xs → slice_get xs i ≡ Some x → (y : Y) × (slice_get ys i ≡ Some y)
entry-at [] ys i x long h = cc
entry-at (a ∷ xs) [] i x long h = absurd (omega arith)
entry-at (a ∷ xs) (y ∷ ys) zero x long h = (y, refl)
entry-at (a ∷ xs) (y ∷ ys) (suc i) x long h = entry-at xs ys i x (omega arith) h

change-at : (fs : List Folded) (Q : List Value → _) (i : ℕ) (f : Folded) → AllByRecursion (λ g. g.change ≡ Q g.key) fs → slice_get fs i ≡ Some f → f.change ≡ Q f.key
change-at [] Q i f h e = cc
change-at (g ∷ fs) Q zero f h e = subst (λ (x : Folded). x.change ≡ Q x.key) (some_same g f e) h.0
change-at (g ∷ fs) Q (suc i) f h e = change-at fs Q i f h.1 e

module _ (f : FoundView) (clean : schema_fault f.snapshot.schema.columns f.snapshot.schema.keys ≡ None) (located : IsLocated f.snapshot.schema f.load f.located)
    (fs : List Folded) (folds : AreFolded f.snapshot.schema f.load.given None f.load.ops fs) where
  abbrev s : Layout
  s = f.snapshot.schema

  place-is : (i : ℕ) (g : Folded) (e : CodeMove) → slice_get fs i ≡ Some g → slice_get f.located i ≡ Some e → place_stored f.located (key_code s g.key) None ≡ e.1
  place-is i g e there at = stored-at s (key_codes_tell s clean) f.located fs i g e None (same-codes f fs located folds) folds.coded folds.rise there at

  named-at : (i : ℕ) (g : Folded) → slice_get fs i ≡ Some g → is_among (touches f.load.ops) g.key ≡ true
  named-at i g there = sym (folds.named g.key) ∙ among-at fs i g there

  asked-place : (g : Folded) (e : CodeMove) (p : Place) → asked g e ≡ Some p → (overlays g.change ≡ true) × (e.1 ≡ Some p)
  asked-place g e p h = go (overlays g.change) refl h
    where
      go : (t : Truth) → overlays g.change ≡ t → cond t e.1 None ≡ Some p → (t ≡ true) × (e.1 ≡ Some p)
      go true o h = (refl, h)
      go false o h = absurd (none_some p h)

  pub asks-for : (i : ℕ) (g : Folded) (e : CodeMove) (p : Place) → slice_get fs i ≡ Some g → slice_get f.located i ≡ Some e → asked g e ≡ Some p → AsksFor f p
  asks-for i g e p there at asks =
      let both = asked-place g e p asks in
      record {
        key = g.key;
        named = named-at i g there;
        asks = ap overlays (sym (change-at fs (λ k. change_at f.load.given None f.load.ops k) i g (folded_have_changes s f.load fs folds) there)) ∙ both.0;
        at = place-is i g e there at ∙ both.1;
      }

  -- what is read at the keys' places fits, and is the keys'
  pub olds-read : (os : Olds) → AreOldsRead f.snapshot fs f.located os → AreOlds s fs os
  olds-read os are = olds-fit s fs os are.long (λ i g row there got.
      let entry = entry-at fs f.located i g (as-many f fs located folds) there in
      let old = are.good i g entry.0 row there entry.1 got in
      (old.2.fits, old.2.key_is))

  -- where a key has no place, nothing is read
  pub none-read : (os : Olds) → AreOldsRead f.snapshot fs f.located os → (i : ℕ) (g : Folded) (e : CodeMove) → slice_get fs i ≡ Some g → slice_get f.located i ≡ Some e → e.1 ≡ None
      → (row : Row) → slice_get os i ≡ Some (Some row) → ⊥
  none-read os are i g e there at none row got =
      let old = are.good i g e row there at got in
      none_some old.0 (sym none ∙ (asked-place g e old.0 old.1).1)

  pub reads-found : (g : FoundView) → ReadsAsked fs f.located f.snapshot.parts g.snapshot.parts → ReadsFound f g
  reads-found g reads = record {
    blocks = reads.blocks;
    once = reads.once;
    asked_for = λ i d lt. let one = reads.asked_for i d lt in (one.3, asks-for one.0 one.1 one.2 one.3 one.4 one.5 one.6, one.7);
    read = reads.read;
  }

  pub found-damage : (d : Damaged) → TellsReadDamage f.snapshot fs f.located d → IsFoundDamage f d
  found-damage d damage = record { keys = fs; folds = folds; damage = damage }

  -- ---- where what was found stands for a map

  module _ (m : Rows) (stands : IsFoundOf f m) where
    tells : TellsRows f.snapshot stands.stored
    tells = record { told = stands.told; once = stands.once }

    -- a key without a place has no row
    pub no-row : (i : ℕ) (g : Folded) (e : CodeMove) → slice_get fs i ≡ Some g → slice_get f.located i ≡ Some e → e.1 ≡ None → get m g.key ≡ None
    no-row i g e there at none =
        no-place s (live_at stands.stored f.snapshot) m g.key (place_stored f.located (key_code s g.key) None) stands.stands (stands.places g.key (named-at i g there))
        (place-is i g e there at ∙ none)

    old-is : (p : Place) (key row : Row) → IsOldRow f.snapshot p key row → get m key ≡ Some row
    old-is p key row old = (stands.stands.same key row).1 (p, old.lives stands.stored tells, old.key_is)

    pub olds-of-map : (os : Olds) → AreOldsRead f.snapshot fs f.located os → AreOldsOf m fs os
    olds-of-map os are = olds-of m fs os are.long one
      where
        one : (i : ℕ) (g : Folded) (o : Option Row) → slice_get fs i ≡ Some g → slice_get os i ≡ Some o → overlays g.change ≡ true → o ≡ get m g.key
        one i g o there got asks =
            let entry = entry-at fs f.located i g (as-many f fs located folds) there in
            go o entry.0.1 refl got entry.1
          where
            has-asked : (e : CodeMove) (p : Option Place) → e.1 ≡ p → asked g e ≡ p
            has-asked e p is = ap (λ t. cond t e.1 None) asks ∙ is

            go : (p : Option Row) (q : Option Place) → (entry-at fs f.located i g (as-many f fs located folds) there).0.1 ≡ q → slice_get os i ≡ Some p
                → slice_get f.located i ≡ Some (entry-at fs f.located i g (as-many f fs located folds) there).0 → p ≡ get m g.key
            go (Some row) q is got at = let old = are.good i g (entry-at fs f.located i g (as-many f fs located folds) there).0 row there at got in sym (old-is old.0 g.key row old.2)
            go None None is got at = sym (no-row i g (entry-at fs f.located i g (as-many f fs located folds) there).0 there at is)
            go None (Some p) is got at =
                let e = (entry-at fs f.located i g (as-many f fs located folds) there).0 in
                let row = are.all i g e p there at (has-asked e (Some p) is) in
                absurd (none_some row.0 (some_same None (Some row.0) (sym got ∙ row.1)))

    told-at : (ps : List PartView) (i : ℕ) (part : PartView) → AreTold s stands.stored ps → slice_get ps i ≡ Some part
        → IsPieceOf s part (record { rows = stands.stored part.number; dead = part.dead })
    told-at [] i part told h = cc
    told-at (p ∷ ps) zero part told h = subst (λ (q : PartView). IsPieceOf s q (record { rows = stands.stored q.number; dead = q.dead })) (some_same p part h) told.0
    told-at (p ∷ ps) (suc i) part told h = told-at ps i part told.1 h

    pub undamaged : (d : Damaged) → TellsReadDamage f.snapshot fs f.located d → ⊥
    undamaged d tells_damage = go tells_damage.damage
      where
        get-at : (ws : List Wanted) (i : ℕ) (w : Wanted) → All (IsWanted fs f.located) ws → slice_get ws i ≡ Some w → IsWanted fs f.located w
        get-at [] i w h e = cc
        get-at (x ∷ ws) zero w h e = subst (IsWanted fs f.located) (some_same x w e) (h 0 x (omega arith))
        get-at (x ∷ ws) (suc i) w h e = get-at ws i w (λ j d lt. h (suc j) d (omega arith)) e

        go : IsLost f.snapshot fs tells_damage.wanted d ⊎ IsBroken f.snapshot tells_damage.wanted d → ⊥
        go (inl lost) =
            let one = get-at tells_damage.wanted lost.at lost.row tells_damage.are.each lost.among in
            let key : one.key ≡ lost.key = some_same one.key lost.key (sym one.there ∙ lost.is) in
            let place = (asked-place one.key one.entry lost.row.place one.asks).1 in
            let has = (stands.places one.key.key (named-at lost.row.key one.key one.there) lost.row.place).0 (place-is lost.row.key one.key one.entry one.there one.at ∙ place) in
            lost.lost stands.stored tells (has.0, has.1, has.2 ∙ ap (λ (x : Folded). x.key) key)
        go (inr broken) = broken.none (record { rows = stands.stored broken.part.number; dead = broken.part.dead }) (told-at f.snapshot.parts broken.i broken.part stands.told broken.there)
