-- When a change is that of a load.
use Rattle.std.proofs.Common.{◌≡◌, refl, ap, sym, subst, ◌∙◌, ℕ, zero, suc, ◌+◌, ◌<◌, ◌≤◌, inl, inr, List, [], ◌∷◌, ◌++◌, map, take, drop, length, slice_set, Option, Some, None, Bool, true, false, ◌&&◌, ◌||◌, cond, is_some, nat_le, nat_lt, if◌then◌else◌, arith, length-append, length-set, append_assoc}
use Rattle.std.specs.List.{All, list_all}
use Rattle.key_code.specs.KeyCode.{key_code}
use Rattle.std.specs.Ordering.{eq_by_cmp}
use Rattle.std.specs.FinMap.{get}
use Rattle.std.proofs.lemmas.List.{length-drop, length-map}
use Rattle.std.proofs.lemmas.Bool.{leb-true, ltb-true, and_parts}
use Rattle.std.proofs.lemmas.Map.Views.{tells_apart}
use Rattle.pk_values.specs.Fits.{fits_all}
use Rattle.pk_values.specs.Order.{key_cmp}
use Rattle.pk_values.specs.OrderFacts.{key_exact}
use Rattle.pk_values.specs.SchemaFacts.{length-fits_all}
use Rattle.pk_values.specs.Schemas.{Layout, fits_key, key_of}
use Rattle.pk_values.specs.declared.cells.Column.{Column}
use Rattle.pk_values.specs.declared.cells.Value.{Value}
use Rattle.pk_model.specs.declared.calls.Load.{Load}
use Rattle.pk_model.specs.declared.calls.Op.{Op}
use Rattle.pk_model.specs.declared.calls.Op.TheVariants.{Upsert, Delete}
use Rattle.pk_model.specs.Laws.{row_after, result_for}
use Rattle.pk_model.specs.Lawful.{HasShortKey, most_code_bytes, rise_within, fits_line, fits_given}
use Rattle.pk_model.specs.Tables.{Rows, after, touches, writes, key_named, with_cells, new_row, default_cell}
use Rattle.pk_model.proofs.LoadLaws.{one_result_per_key}
use Rattle.pk_model.proofs.WriteLaws.{unnamed, wrote, held}
use Rattle.index_level0.specs.declared.place.Place.{Place}
use Rattle.rowsets.specs.Live.{Part, Files, live, is_among}
use Rattle.rowsets.specs.Marks.{marked}
use Rattle.rowsets.specs.Changes.{one_rowset}
use Rattle.rowsets.specs.Loads.{AreResultsOver, PartsMakeLoad, ResultsByKey, NoWriteNoRow, LoadsKeepShortKeys, ComeWithRow, RowsetsRise, LiveRowsFit, WholeLoadsAskNothing, WholeLoadResults}

some_or_none : {X : Type 0} (o : Option X) → is_some o ≡ false → o ≡ None
some_or_none None e = refl
some_or_none (Some x) e = cc

clash : (b : Bool) → b ≡ true → b ≡ false → ⊥
clash b e f = cc (sym e ∙ f)

pub parts_make_load : PartsMakeLoad
parts_make_load s load old index m fresh dead next new_rows old_rows places = record {
  others = λ k e. one_result_per_key s load m k ∙ unnamed s load.given load.ops k (get m k) e;
  new_rows = new_rows;
  old_rows = old_rows;
  places = places;
}

pub results_by_key : ResultsByKey
results_by_key s load m fresh results named = record {
  results = λ k row e. (
    λ is. (results k row e).0 (sym (one_result_per_key s load m k) ∙ is),
    λ h. one_result_per_key s load m k ∙ (results k row e).1 h,
  );
  named = named;
}

pub no_write_no_row : NoWriteNoRow
no_write_no_row s load m k none touched = some_or_none (get (after s load m) k) (go (is_some (get (after s load m) k)) refl)
  where
    go : (b : Bool) → is_some (get (after s load m) k) ≡ b → b ≡ false
    go false e = refl
    go true e =
        let h = held s load.given load.ops k (get m k) (ap is_some (sym (one_result_per_key s load m k)) ∙ e) none in
        absurd (clash (is_among (touches load.ops) k) touched h.1)

pub live_rows_fit : LiveRowsFit
live_rows_fit s rows m stands fit = record {
  keys = λ k row is. let h = (stands.same k row).0 is in h.2;
  fit = λ k row is. let h = (stands.same k row).0 is in fit h.0 row h.1;
}

-- a key that lines name has a short code, where each of them names one that has
short_named : (s : Layout) (ops : List Op) (k : List Value) → All (HasShortKey s) ops → is_among (touches ops) k ≡ true → length (key_code s k) ≤ most_code_bytes
short_named s [] k short e = cc
short_named s (op ∷ ops) k short e = go (eq_by_cmp key_cmp k (key_named op)) refl (λ f. short_named s ops k (λ i d lt. short (suc i) d (omega arith)) f)
  where
    go : (b : Bool) → eq_by_cmp key_cmp k (key_named op) ≡ b → (is_among (touches ops) k ≡ true → length (key_code s k) ≤ most_code_bytes) → length (key_code s k) ≤ most_code_bytes
    go true is later = subst (λ j. length (key_code s j) ≤ most_code_bytes) (sym (tells_apart key_exact k (key_named op) is)) (short 0 op (omega arith))
    go false is later = later (ap (λ b. b || is_among (touches ops) k) (sym is) ∙ e)

pub loads_keep_short_keys : LoadsKeepShortKeys
loads_keep_short_keys s load m lawful short k row is = go (is_among (touches load.ops) k) refl
  where
    go : (b : Bool) → is_among (touches load.ops) k ≡ b → length (key_code s k) ≤ most_code_bytes
    go true e = short_named s load.ops k lawful.codes e
    go false e = short k row (sym (one_result_per_key s load m k ∙ unnamed s load.given load.ops k (get m k) e) ∙ is)

-- new files are a rowset exactly where the load writes
pub new_rowset : (s : Layout) (load : Load) (m : Rows) (rows : Files) (dead : List Place) (new : List Part) → AreResultsOver s load m (live rows (marked dead new)) → ComeWithRow rows dead new
    → length (one_rowset new) ≡ (if writes load.ops then 1 else 0)
new_rowset s load m rows dead new results come = go (writes load.ops) refl new refl
  where
    no_row : (p : Place) → live rows (marked dead []) p ≡ None
    no_row p = refl

    none_some : (x : List Value) → None ≡ Some x → ⊥
    none_some x e = cc

    some : (o : Option (List Value)) → is_some o ≡ true → (row : List Value) × (o ≡ Some row)
    some None e = cc
    some (Some row) e = (row, refl)

    go : (b : Bool) → writes load.ops ≡ b → (parts : List Part) → new ≡ parts → length (one_rowset parts) ≡ (if b then 1 else 0)
    go true e [] f =
        let w = wrote s load.given load.ops e in
        let there = some (get (after s load m) w.0) (ap is_some (one_result_per_key s load m w.0) ∙ w.1 (get m w.0)) in
        let named = named_one (is_among (touches load.ops) w.0) w.0 refl (w.1 None) in
        let h = (results.results w.0 there.0 named).0 there.1 in
        absurd (none_some there.0 (ap (λ ps. live rows (marked dead ps) h.0) (sym f) ∙ h.1))
      where
        named_one : (b : Bool) (k : List Value) → is_among (touches load.ops) k ≡ b → is_some (result_for s load.given load.ops k None) ≡ true → is_among (touches load.ops) k ≡ true
        named_one true k e is = e
        named_one false k e is = absurd (clash (is_some (result_for s load.given load.ops k None)) is (ap is_some (unnamed s load.given load.ops k None e)))
    go true e (part ∷ parts) f = refl
    go false e [] f = refl
    go false e (part ∷ parts) f = absurd (elim come [
      | inl none ↦ some_part (sym none ∙ f)
      | inr row ↦
          let key = key_of s row.1 in
          let named = results.named row.0 key (row.1, row.2, refl) in
          let is = (results.results key row.1 named).1 (row.0, row.2, refl) in
          none_some row.1 (sym (no_write_no_row s load m key e named) ∙ is)
    ])
      where
        some_part : [] ≡ part ∷ parts → ⊥
        some_part e = cc

pub rowsets_rise : RowsetsRise
rowsets_rise s load m rows dead new v results come =
    length-map (v ++ one_rowset new) (marked dead) ∙ length-append v (one_rowset new) ∙ ap (λ n. length v + n) (new_rowset s load m rows dead new results come)

-- lists that rise from a to below b have at most so many places
few : (a b : ℕ) (given : List ℕ) → rise_within a b given ≡ true → a ≤ b → a + length given ≤ b
few a b [] h le = omega arith
few a b (c ∷ cs) h le =
    let within = and_parts (nat_le a c && nat_lt c b) (rise_within (c + 1) b cs) h in
    let low = and_parts (nat_le a c) (nat_lt c b) within.0 in
    let from : a ≤ c = leb-true a c low.0 in
    let below : c < b = ltb-true c b low.1 in
    let more = few (c + 1) b cs within.1 (omega arith) in
    omega arith

take-set : (a n : ℕ) (row : List Value) (v : Value) → n ≡ a + 1 → a < length row → take n (slice_set row a v) ≡ take a row ++ v ∷ []
take-set a n [] v e h = absurd (omega arith)
take-set a zero (x ∷ row) v e h = absurd (omega arith)
take-set zero (suc n) (x ∷ row) v e h = let none : n ≡ 0 = omega arith in ap (λ i. v ∷ take i row) none
take-set (suc a) (suc n) (x ∷ row) v e h = ap (λ r. x ∷ r) (take-set a n row v (omega arith) (omega arith))

take-whole : (row : List Value) (n : ℕ) → n ≡ length row → take n row ≡ row
take-whole [] zero h = refl
take-whole [] (suc n) h = refl
take-whole (x ∷ row) zero h = absurd (omega arith)
take-whole (x ∷ row) (suc n) h = ap (λ r. x ∷ r) (take-whole row n (omega arith))

append-none : (xs : List Value) → xs ++ [] ≡ xs
append-none [] = refl
append-none (x ∷ xs) = ap (λ r. x ∷ r) (append-none xs)

-- cells for each column from a on take the place of all cells from a on
all_cells : (a b : ℕ) (given : List ℕ) (cells row : List Value) → rise_within a b given ≡ true → a + length given ≡ b → length cells ≡ length given → length row ≡ b
    → with_cells given cells row ≡ take a row ++ cells
all_cells a b [] [] row h all same long = sym (append-none (take a row) ∙ take-whole row a (omega arith))
all_cells a b [] (v ∷ vs) row h all same long = absurd (omega arith)
all_cells a b (c ∷ cs) [] row h all same long = absurd (omega arith)
all_cells a b (c ∷ cs) (v ∷ vs) row h all same long =
    let within = and_parts (nat_le a c && nat_lt c b) (rise_within (c + 1) b cs) h in
    let low = and_parts (nat_le a c) (nat_lt c b) within.0 in
    let from : a ≤ c = leb-true a c low.0 in
    let below : c < b = ltb-true c b low.1 in
    let most = few (c + 1) b cs within.1 (omega arith) in
    let first : c ≡ a = omega arith in
    let rest : c + 1 + length cs ≡ b = omega arith in
    all_cells (c + 1) b cs vs (slice_set row c v) within.1 rest (omega arith) (length-set row c v ∙ long)
    ∙ ap (λ r. r ++ vs) (take-set c (c + 1) row v refl (omega arith) ∙ ap (λ i. take i row ++ v ∷ []) first)
    ∙ append_assoc (take a row) (v ∷ []) vs

given_cells : (s : Layout) (given : List ℕ) (cells : List Value) → fits_given s given cells ≡ true → length cells ≡ length given
given_cells s [] [] h = refl
given_cells s [] (v ∷ vs) h = cc
given_cells s (c ∷ cs) [] h = cc
given_cells s (c ∷ cs) (v ∷ vs) h = ap suc (given_cells s cs vs (and_parts _ (fits_given s cs vs) h).1)

first_cells : (n : ℕ) (cs : List Column) (key more : List Value) → fits_all (take n cs) key ≡ true → n ≤ length cs → (take n (key ++ more) ≡ key) × (length key ≡ n)
first_cells zero cs [] more h le = (refl, refl)
first_cells zero cs (v ∷ key) more h le = cc
first_cells (suc n) [] key more h le = absurd (omega arith)
first_cells (suc n) (c ∷ cs) [] more h le = cc
first_cells (suc n) (c ∷ cs) (v ∷ key) more h le =
    let r = first_cells n cs key more (and_parts _ (fits_all (take n cs) key) h).1 (omega arith) in
    (ap (λ k. v ∷ k) r.0, ap suc r.1)

module _ (s : Layout) (given : List ℕ) (rises : rise_within s.keys (length s.columns) given ≡ true) (whole : s.keys + length given ≡ length s.columns) where
  -- a whole line leaves its key and its cells
  whole_row : (key cells row : List Value) → fits_given s given cells ≡ true → length row ≡ length s.columns → key_of s row ≡ key → with_cells given cells row ≡ key ++ cells
  whole_row key cells row fit long first = all_cells s.keys (length s.columns) given cells row rises whole (given_cells s given cells fit) long ∙ ap (λ k. k ++ cells) first

  -- what may stand at a key: nothing, or a row of its own with a cell for each column
  abbrev MayStand : List Value → Option (List Value) → Type 0
  MayStand key old = (row : List Value) → old ≡ Some row → (length row ≡ length s.columns) × (key_of s row ≡ key)

  some_same : (x y : List Value) → Some x ≡ Some y → x ≡ y
  some_same x y e = cc

  new_stands : (key cells : List Value) → fits_key s key ≡ true → fits_given s given cells ≡ true → with_cells given cells (new_row s key) ≡ key ++ cells
  new_stands key cells fit given_fit =
      let key_is = first_cells s.keys s.columns key (map default_cell (drop s.keys s.columns)) fit (omega arith) in
      whole_row key cells (new_row s key) given_fit
      (length-append key (map default_cell (drop s.keys s.columns)) ∙ ap (λ n. n + length (map default_cell (drop s.keys s.columns))) key_is.1
      ∙ ap (λ n. s.keys + n) (length-map (drop s.keys s.columns) default_cell ∙ length-drop s.keys s.columns) ∙ omega arith)
      key_is.0

  one_line : (op : Op) (old : Option (List Value)) → fits_line s given op ≡ true → MayStand (key_named op) old → row_after s given op old ≡ row_after s given op None
  one_line (Delete key) old fit may = refl
  one_line (Upsert key cells) None fit may = refl
  one_line (Upsert key cells) (Some row) fit may =
      let fits = and_parts (fits_key s key) (fits_given s given cells) fit in
      let stands = may row refl in
      ap Some (whole_row key cells row fits.1 stands.0 stands.1 ∙ sym (new_stands key cells fits.0 fits.1))

  -- so a named key's result doesn't ask what stood there
  pub named_result : (ops : List Op) (k : List Value) (old : Option (List Value)) → list_all (fits_line s given) ops ≡ true → MayStand k old → is_among (touches ops) k ≡ true
      → result_for s given ops k old ≡ result_for s given ops k None
  named_result [] k old fit may e = cc
  named_result (op ∷ ops) k old fit may e = go (eq_by_cmp key_cmp k (key_named op)) refl e (λ later. named_result ops k old fits.1 may later)
    where
      fits : (fits_line s given op ≡ true) × (list_all (fits_line s given) ops ≡ true)
      fits = and_parts (fits_line s given op) (list_all (fits_line s given) ops) fit

      go : (b : Bool) → eq_by_cmp key_cmp k (key_named op) ≡ b → (b || is_among (touches ops) k) ≡ true
          → (is_among (touches ops) k ≡ true → result_for s given ops k old ≡ result_for s given ops k None)
          → result_for s given ops k (cond b (row_after s given op old) old) ≡ result_for s given ops k (cond b (row_after s given op None) None)
      go true same h more =
          let here : k ≡ key_named op = tells_apart key_exact k (key_named op) same in
          ap (result_for s given ops k) (one_line op old fits.0 (λ row is. let m = may row is in (m.0, m.1 ∙ here)))
      go false same h more = more h

pub whole_loads_ask_nothing : WholeLoadsAskNothing
whole_loads_ask_nothing s load m k lawful whole are touched =
    named_result s load.given lawful.given whole load.ops k (get m k) lawful.lines
    (λ row is. (length-fits_all s.columns row (are.fit k row is), are.keys k row is)) touched

pub whole_load_results : WholeLoadResults
whole_load_results s load fresh lawful whole results named m are = results_by_key s load m fresh
    (λ k row touched. let same = whole_loads_ask_nothing s load m k lawful whole are touched in (
      λ is. (results k row touched).0 (sym same ∙ is),
      λ h. same ∙ (results k row touched).1 h,
    )) named
