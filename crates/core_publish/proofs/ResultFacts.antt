-- Lines in the order of their keys leave the rows that the load leaves of no row, and name each touched key once.
use Rattle.std.proofs.Common.{◌≡◌, refl, ap, sym, subst, ◌∙◌, ℕ, suc, ◌+◌, ◌<◌, ◌≤◌, List, [], ◌∷◌, ◌++◌, map, take, drop, length, Option, Some, None, Bool as Truth, true, false, ◌&&◌, ◌||◌, ◌==◌, cond, T, nat_le, nat_lt, arith, eq-eqb}
use Rattle.std.specs.Prelude.{⊤}
use Rattle.std.specs.List.{AllByRecursion, list_all}
use Rattle.std.specs.Cmp.{alike_right}
use Rattle.std.specs.FinMap.{empty, entries-from_sorted, from_sorted, get, get-empty, get-from_sorted, same_map, values}
use Rattle.std.specs.FinMap.Entries.{below_all, find, is_sorted}
use Rattle.std.specs.Ordering.{eq_by_cmp, is_eq, is_le, is_lt}
use Rattle.std.specs.declared.cmp.Ordering.{Ordering}
use Rattle.std.specs.declared.cmp.Ordering.TheVariants.{Less, Equal, Greater}
use Rattle.std.proofs.lemmas.Bool.{and_parts, leb-true, ltb-true}
use Rattle.std.proofs.lemmas.List.{length-append, length-drop, length-take, take_at}
use Rattle.std.proofs.lemmas.Map.Views.{tells_apart}
use Rattle.pk_values.specs.Order.{key_cmp}
use Rattle.pk_values.specs.OrderFacts.{key_total, key_exact}
use Rattle.pk_values.specs.SchemaFacts.{length-fits_all}
use Rattle.pk_values.specs.Schemas.{Layout, fits_key, key_of}
use Rattle.pk_values.specs.declared.cells.Value.{Value}
use Rattle.pk_model.specs.Laws.{row_after, result_for}
use Rattle.pk_model.specs.Lawful.{fits_given, fits_line, rise_within}
use Rattle.pk_model.specs.Lines.{are_counted}
use Rattle.pk_model.specs.Merges.{names_next, rise}
use Rattle.pk_model.specs.Tables.{Rows, after_lines, key_named, touches}
use Rattle.pk_model.specs.declared.calls.Op.{Op}
use Rattle.pk_model.specs.declared.calls.Op.TheVariants.{Upsert, Delete}
use Rattle.pk_model.proofs.CellLaws.{whole-line}
use Rattle.pk_model.proofs.LoadLaws.{get-after}
use Rattle.pk_model.proofs.MergeLaws.{rise-next}
use Rattle.pk_model.proofs.RunLaws as run
use Rattle.pk_model.proofs.WriteLaws.{named-next, unnamed}
use Rattle.rowsets.specs.Live.{is_among}
use Rattle.rowsets.proofs.LoadFacts.{named_result}
use Rattle.core_publish.specs.Prepared.{Rise}
use Rattle.core_publish.specs.Results.{KeyResult, results, row_left, rows_left}

abbrev pub keys_of : List KeyResult → List (List Value)
keys_of rs = map (λ r. r.0) rs

-- ---- keys rise

-- each key is above this one
abbrev pub AllAbove : List Value → List KeyResult → Type 0
AllAbove key rs = AllByRecursion (λ r. key_cmp key r.0 ≡ Less) rs

abbrev pub AllRise : List KeyResult → Type 0
AllRise [] = ⊤
AllRise (r ∷ rs) = AllAbove r.0 rs × AllRise rs

abbrev IsBelowNext : List Value → List Op → Type 0
IsBelowNext key [] = ⊤
IsBelowNext key (op ∷ ops) = key_cmp key (key_named op) ≡ Less

less-then : (k a b : List Value) → key_cmp k a ≡ Less → T (is_le (key_cmp a b)) → key_cmp k b ≡ Less
less-then k a b e h = by (key_cmp a b) refl h
  where
    by : (o : Ordering) → key_cmp a b ≡ o → T (is_le o) → key_cmp k b ≡ Less
    by Less f u = key_total.trans k a b e f
    by Equal f u = sym (alike_right key_total a b k f) ∙ e
    by Greater f u = absurd u

below-later : (k : List Value) (op : Op) (ops : List Op) → key_cmp k (key_named op) ≡ Less → T (rise (op ∷ ops)) → IsBelowNext k ops
below-later k op [] e h = tt
below-later k op (b ∷ ops) e h = less-then k (key_named op) (key_named b) e (run.first _ _ h)

above : (k : List Value) (ops : List Op) → IsBelowNext k ops → T (rise ops) → AllAbove k (results ops)
above k [] below h = tt
above k (op ∷ ops) below h =
    let rest : AllAbove k (results ops) = above k ops (below-later k op ops below h) (rise-next op ops h) in
    elim (names_next (key_named op) ops) as (λ t. AllAbove k (cond t (results ops) ((key_named op, row_left op) ∷ results ops))) [ true ↦ rest | false ↦ (below, rest) ]

next-above : (op : Op) (ops : List Op) → T (rise (op ∷ ops)) → names_next (key_named op) ops ≡ false → IsBelowNext (key_named op) ops
next-above op [] h n = tt
next-above op (b ∷ ops) h n = by (key_cmp (key_named op) (key_named b)) refl (run.first _ _ h) n
  where
    by : (o : Ordering) → key_cmp (key_named op) (key_named b) ≡ o → T (is_le o) → is_eq o ≡ false → key_cmp (key_named op) (key_named b) ≡ Less
    by Less e u n = e
    by Equal e u n = cc
    by Greater e u n = absurd u

pub all-rise : (ops : List Op) → T (rise ops) → AllRise (results ops)
all-rise [] h = tt
all-rise (op ∷ ops) h = by (all-rise ops (rise-next op ops h)) (names_next (key_named op) ops) refl
  where
    by : AllRise (results ops) → (t : Truth) → names_next (key_named op) ops ≡ t → AllRise (cond t (results ops) ((key_named op, row_left op) ∷ results ops))
    by rest true e = rest
    by rest false e = (above (key_named op) ops (next-above op ops h e) (rise-next op ops h), rest)

is-less : (o : Ordering) → o ≡ Less → is_lt o ≡ true
is-less o e = ap is_lt e

pub keys-rise : (rs : List KeyResult) → AllRise rs → Rise (keys_of rs)
keys-rise [] h = tt
keys-rise (a ∷ []) h = tt
keys-rise (a ∷ b ∷ rs) h = (is-less (key_cmp a.0 b.0) h.0.0, keys-rise (b ∷ rs) h.1)

-- ---- the touched keys

or-again : (a b : Truth) → (a ≡ true → b ≡ true) → (a || b) ≡ b
or-again true true f = refl
or-again true false f = sym (f refl)
or-again false b f = refl

pub keys-touched : (ops : List Op) → T (rise ops) → (k : List Value) → is_among (keys_of (results ops)) k ≡ is_among (touches ops) k
keys-touched [] h k = refl
keys-touched (op ∷ ops) h k = by (keys-touched ops (rise-next op ops h) k) (names_next (key_named op) ops) refl
  where
    here : names_next (key_named op) ops ≡ true → eq_by_cmp key_cmp k (key_named op) ≡ true → is_among (touches ops) k ≡ true
    here e same = ap (is_among (touches ops)) (tells_apart key_exact k (key_named op) same) ∙ named-next op ops h ∙ e

    by : is_among (keys_of (results ops)) k ≡ is_among (touches ops) k → (t : Truth) → names_next (key_named op) ops ≡ t
        → is_among (keys_of (cond t (results ops) ((key_named op, row_left op) ∷ results ops))) k ≡ is_among (touches (op ∷ ops)) k
    by rest true e = rest ∙ sym (or-again (eq_by_cmp key_cmp k (key_named op)) (is_among (touches ops) k) (here e))
    by rest false e = ap (λ t. eq_by_cmp key_cmp k (key_named op) || t) rest

-- ---- the rows

abbrev Pairs : Type 0
Pairs = List (List Value × List Value)

abbrev pub pairs_left : List KeyResult → Pairs
pairs_left [] = []
pairs_left ((key, None) ∷ rs) = pairs_left rs
pairs_left ((key, Some row) ∷ rs) = (key, row) ∷ pairs_left rs

pairs-rows : (rs : List KeyResult) → map (λ e. e.1) (pairs_left rs) ≡ rows_left rs
pairs-rows [] = refl
pairs-rows ((key, None) ∷ rs) = pairs-rows rs
pairs-rows ((key, Some row) ∷ rs) = ap (λ rows. row ∷ rows) (pairs-rows rs)

pairs-below : (k : List Value) (rs : List KeyResult) → AllAbove k rs → T (below_all key_cmp k (pairs_left rs))
pairs-below k [] h = tt
pairs-below k ((key, None) ∷ rs) h = pairs-below k rs h.1
pairs-below k ((key, Some row) ∷ rs) h = run.both _ _ (subst (λ o. T (is_lt o)) (sym h.0) tt) (pairs-below k rs h.1)

pairs-sorted : (rs : List KeyResult) → AllRise rs → T (is_sorted key_cmp (pairs_left rs))
pairs-sorted [] h = tt
pairs-sorted ((key, None) ∷ rs) h = pairs-sorted rs h.1
pairs-sorted ((key, Some row) ∷ rs) h = run.both _ _ (pairs-below key rs h.0) (pairs-sorted rs h.1)

-- places from a to below b are at most so many
few : (a b : ℕ) (given : List ℕ) → rise_within a b given ≡ true → a ≤ b → a + length given ≤ b
few a b [] h le = omega arith
few a b (c ∷ cs) h le =
    let within = and_parts (nat_le a c && nat_lt c b) (rise_within (c + 1) b cs) h in
    let low = and_parts (nat_le a c) (nat_lt c b) within.0 in
    let from : a ≤ c = leb-true a c low.0 in
    let below : c < b = ltb-true c b low.1 in
    let more = few (c + 1) b cs within.1 (omega arith) in
    omega arith

counted : (a b : ℕ) (given : List ℕ) → rise_within a b given ≡ true → a + length given ≡ b → are_counted a given ≡ true
counted a b [] h all = refl
counted a b (c ∷ cs) h all =
    let within = and_parts (nat_le a c && nat_lt c b) (rise_within (c + 1) b cs) h in
    let low = and_parts (nat_le a c) (nat_lt c b) within.0 in
    let from : a ≤ c = leb-true a c low.0 in
    let below : c < b = ltb-true c b low.1 in
    let most = few (c + 1) b cs within.1 (omega arith) in
    let same : c ≡ a = omega arith in
    let left : c + 1 + length cs ≡ b = omega arith in
    let rest : are_counted (c + 1) cs ≡ true = counted (c + 1) b cs within.1 left in
    (λ i. (eq-eqb c a same i) && are_counted (sym same i + 1) cs) ∙ rest

given-cells : (s : Layout) (given : List ℕ) (cells : List Value) → fits_given s given cells ≡ true → length cells ≡ length given
given-cells s [] [] h = refl
given-cells s [] (v ∷ vs) h = cc
given-cells s (c ∷ cs) [] h = cc
given-cells s (c ∷ cs) (v ∷ vs) h = ap suc (given-cells s cs vs (and_parts _ (fits_given s cs vs) h).1)

module _ (s : Layout) (given : List ℕ) (rises : rise_within s.keys (length s.columns) given ≡ true) (whole : s.keys + length given ≡ length s.columns) where
  key-long : (key : List Value) → fits_key s key ≡ true → length key ≡ s.keys
  key-long key fits = length-fits_all (take s.keys s.columns) key fits ∙ length-take s.keys s.columns ∙ omega arith

  pub row-key : (key cells : List Value) → fits_key s key ≡ true → key_of s (key ++ cells) ≡ key
  row-key key cells fits = take_at key cells s.keys (key-long key fits)

  row-long : (key cells : List Value) → fits_key s key ≡ true → fits_given s given cells ≡ true → length (key ++ cells) ≡ length s.columns
  row-long key cells fits fit = omega (arith, length-append key cells, key-long key fits, given-cells s given cells fit)

  others : length (drop s.keys s.columns) ≡ length given
  others = omega (arith, length-drop s.keys s.columns)

  -- the line of an upsert leaves its key and its cells, where nothing stood
  left : (op : Op) → fits_line s given op ≡ true → row_after s given op None ≡ row_left op
  left (Delete key) fit = refl
  left (Upsert key cells) fit =
      let fits = and_parts (fits_key s key) (fits_given s given cells) fit in
      let a : (length key == s.keys) ≡ true = eq-eqb (length key) s.keys (key-long key fits.0) in
      let b : (length given == length (drop s.keys s.columns)) ≡ true = eq-eqb (length given) _ (sym others) in
      let c : (length cells == length (drop s.keys s.columns)) ≡ true = eq-eqb (length cells) _ (given-cells s given cells fits.1 ∙ sym others) in
      let d : are_counted s.keys given ≡ true = counted s.keys (length s.columns) given rises whole in
      ap Some (whole-line s given key cells ((λ i. a i && b i && c i && d i)))

  -- what may stand at a key
  stands : (op : Op) → fits_line s given op ≡ true → (row : List Value) → row_left op ≡ Some row → (length row ≡ length s.columns) × (key_of s row ≡ key_named op)
  stands (Delete key) fit row is = cc
  stands (Upsert key cells) fit row is =
      let fits = and_parts (fits_key s key) (fits_given s given cells) fit in
      let same : key ++ cells ≡ row = some_same (key ++ cells) row is in
      (ap length (sym same) ∙ row-long key cells fits.0 fits.1, ap (key_of s) (sym same) ∙ row-key key cells fits.0)
    where
      some_same : (x y : List Value) → Some x ≡ Some y → x ≡ y
      some_same x y e = cc

  -- each key's result is what is found among the rows
  found : (ops : List Op) → T (rise ops) → list_all (fits_line s given) ops ≡ true → (k : List Value) → find key_cmp k (pairs_left (results ops)) ≡ result_for s given ops k None
  found [] h fit k = refl
  found (op ∷ ops) h fit k = by (found ops (rise-next op ops h) (and_parts (fits_line s given op) (list_all (fits_line s given) ops) fit).1 k) (names_next (key_named op) ops) (eq_by_cmp key_cmp k (key_named op)) refl refl
    where
      fits : (fits_line s given op ≡ true) × (list_all (fits_line s given) ops ≡ true)
      fits = and_parts (fits_line s given op) (list_all (fits_line s given) ops) fit

      -- whether a later line names the key of this one
      among : eq_by_cmp key_cmp k (key_named op) ≡ true → (t : Truth) → names_next (key_named op) ops ≡ t → is_among (touches ops) k ≡ t
      among same t e = ap (is_among (touches ops)) (tells_apart key_exact k (key_named op) same) ∙ named-next op ops h ∙ e

      may : eq_by_cmp key_cmp k (key_named op) ≡ true → (row : List Value) → row_after s given op None ≡ Some row → (length row ≡ length s.columns) × (key_of s row ≡ k)
      may same row is =
          let st = stands op fits.0 row (sym (left op fits.0) ∙ is) in
          (st.0, st.1 ∙ sym (tells_apart key_exact k (key_named op) same))

      here : find key_cmp k (pairs_left (results ops)) ≡ result_for s given ops k None
          → eq_by_cmp key_cmp k (key_named op) ≡ true → is_among (touches ops) k ≡ false → (r : Option (List Value)) → find key_cmp k (pairs_left ((key_named op, r) ∷ results ops)) ≡ r
      here rest same none None = rest ∙ unnamed s given ops k None none
      here rest same none (Some row) = ap (λ b. cond b (Some row) (find key_cmp k (pairs_left (results ops)))) same

      there : eq_by_cmp key_cmp k (key_named op) ≡ false → (r : Option (List Value)) → find key_cmp k (pairs_left ((key_named op, r) ∷ results ops)) ≡ find key_cmp k (pairs_left (results ops))
      there other None = refl
      there other (Some row) = ap (λ b. cond b (Some row) (find key_cmp k (pairs_left (results ops)))) other

      by : find key_cmp k (pairs_left (results ops)) ≡ result_for s given ops k None → (n b : Truth) → names_next (key_named op) ops ≡ n → eq_by_cmp key_cmp k (key_named op) ≡ b
          → find key_cmp k (pairs_left (cond n (results ops) ((key_named op, row_left op) ∷ results ops))) ≡ result_for s given ops k (cond b (row_after s given op None) None)
      by rest true true e same = rest ∙ sym (named_result s given rises whole ops k (row_after s given op None) fits.1 (may same) (among same true e))
      by rest true false e other = rest
      by rest false true e same =
          let none : is_among (touches ops) k ≡ false = among same false e in
          here rest same none (row_left op) ∙ sym (left op fits.0) ∙ sym (unnamed s given ops k (row_after s given op None) none)
      by rest false false e other = there other (row_left op) ∙ rest

  -- so the rows are those of the map that the lines make of no row
  pub rows-after : (ops : List Op) → T (rise ops) → list_all (fits_line s given) ops ≡ true → rows_left (results ops) ≡ values (after_lines s given ops empty)
  rows-after ops h fit =
      let sorted = pairs-sorted (results ops) (all-rise ops h) in
      let made : Rows = from_sorted {R = key_cmp} (pairs_left (results ops)) in
      let none : (k : List Value) → get {X = List Value} {R = key_cmp} empty k ≡ None = λ k. get-empty key_cmp k in
      let same : made ≡ after_lines s given ops empty = same_map key_total key_exact made (after_lines s given ops empty) (λ k.
      get-from_sorted key_cmp (pairs_left (results ops)) k sorted ∙ found ops h fit k ∙ sym (get-after s given ops empty k ∙ ap (result_for s given ops k) (none k))) in
      sym (pairs-rows (results ops)) ∙ ap (map (λ e. e.1)) (sym (entries-from_sorted key_cmp (pairs_left (results ops)) sorted)) ∙ ap values same

  -- each row stands at its key
  abbrev pub HasOwnKeys : List KeyResult → Type 0
  HasOwnKeys rs = AllByRecursion (λ r. (row : List Value) → r.1 ≡ Some row → key_of s row ≡ r.0) rs

  pub own-keys : (ops : List Op) → list_all (fits_line s given) ops ≡ true → HasOwnKeys (results ops)
  own-keys [] fit = tt
  own-keys (op ∷ ops) fit =
      let fits = and_parts (fits_line s given op) (list_all (fits_line s given) ops) fit in
      let rest : HasOwnKeys (results ops) = own-keys ops fits.1 in
      elim (names_next (key_named op) ops) as (λ t. HasOwnKeys (cond t (results ops) ((key_named op, row_left op) ∷ results ops))) [
        | true ↦ rest
        | false ↦ (λ row is. (stands op fits.0 row is).1, rest)
      ]
