-- Histories of lawful loads leave lawful rows.
use Rattle.std.proofs.Common.{◌≡◌, refl, ap, sym, subst, ◌∙◌, inl, inr, ℕ, zero, suc, ◌+◌, ◌-◌, ◌<◌, ◌≤◌, max, arith, List, [], ◌∷◌, ◌++◌, length, take, drop, map, slice_set, Option, Some, None, is_some, unwrap_or, cond, Bool as Truth, true, false, not, ◌&&◌, ◌||◌, ◌==◌, nat_lt, T, All}
use Rattle.std.specs.Prelude.{IsTrue, if◌then◌else◌}
use Rattle.std.specs.List.{list_all, list_any, slice_get}
use Rattle.std.specs.Option.{option_map, option_map_or}
use Rattle.std.proofs.lemmas.Bool.{and_parts, and_from, cases_lt, eqb-true}
use Rattle.std.proofs.lemmas.List.{append_assoc, length-append}
use Rattle.std.proofs.lemmas.List.Elements.{All-cons, All-head, All-nil, All-tail}
use Rattle.std.proofs.lemmas.Option.{same_Some, slice_get_past}
use Rattle.std.specs.Ordering.{eq_by_cmp}
use Rattle.std.specs.FinMap as fin
use Rattle.std.specs.FinMap.{entries, entries_sorted, get, get-entries}
use Rattle.std.specs.FinMap.Entries.{find, is_sorted}
use borrow.Author.Tests.{ltb-false}
use Rattle.key_code.specs.KeyCode.{key_code}
use Rattle.pk_values.specs.Order.{key_cmp}
use Rattle.pk_values.specs.OrderFacts.{key_exact}
use Rattle.pk_values.specs.Fits.{fits, fits_all}
use Rattle.pk_values.specs.Schemas.{Layout, default_fits, fits_key, fits_row, key_of, schema_fault}
use Rattle.pk_values.specs.SchemaFacts.{fits_all-take, keys_within, lawful_column}
use Rattle.pk_values.specs.declared.cells.Value.{Value}
use Rattle.pk_values.specs.declared.cells.Value.TheVariants.{Null}
use Rattle.pk_values.specs.declared.cells.Column.{Column}
use Rattle.pk_model.specs.declared.books.Book.{Book}
use Rattle.pk_model.specs.declared.books.Plan.{Plan}
use Rattle.pk_model.specs.declared.calls.Op.{Op}
use Rattle.pk_model.specs.declared.calls.Op.TheVariants.{Upsert, Delete}
use Rattle.pk_model.specs.declared.calls.Load.{Load}
use Rattle.pk_model.specs.declared.calls.Call.{Call}
use Rattle.pk_model.specs.declared.calls.Call.TheVariants as call
use Rattle.pk_model.specs.Books.{Entry, change, change_begin, change_end, change_expire, change_give_up, change_unless, is_full, new_book, next, open_change, plan_at, publish, rows_at, touch, version}
use Rattle.pk_model.specs.Laws.{row_after}
use Rattle.pk_model.specs.Lawful.{HasShortKey, IsLawful, carries_needed, fits_at, fits_given, fits_line, is_needed, most_code_bytes, rise_within}
use Rattle.pk_model.specs.LawfulRows.{AreLawfulRows, CallsKeepRows, HasLawfulLoads, HasLawfulRows, HistoriesKeepRows, IsLawfulCall, IsLawfulRow, LawfulLoadsKeepRows, ListedKeysFit, ListedRowsFit, NewBooksRowsAreLawful}
use Rattle.pk_model.specs.Runs.{Pair}
use Rattle.pk_model.specs.Tables.{Rows, act, after, after_lines, default_cell, key_named, new_row, with_cells}
use Rattle.pk_model.proofs.HistoryLaws.{after-reply}
use Rattle.pk_model.proofs.LawfulLaws.{row-key}
use Rattle.pk_model.proofs.LoadLaws.{get-act}
use Rattle.pk_model.proofs.RunLaws.{equal, find-below, find-here, sorted-head, sorted-last}
use Rattle.pk_model.proofs.VersionLaws.{current-rows, expired, expiry-drops, kept, new-version, older-stay}

-- ---- a row that lacks only what is still to be written into it

-- each cell fits, but that those in places of these may not
abbrev fits_but : List ℕ → ℕ → List Column → List Value → Truth
fits_but given i [] [] = true
fits_but given i [] (v ∷ vs) = false
fits_but given i (c ∷ cs) [] = false
fits_but given i (c ∷ cs) (v ∷ vs) = (fits c v || list_any (λ place. place == i) given) && fits_but given (i + 1) cs vs

or-left : (a b : Truth) → a ≡ true → (a || b) ≡ true
or-left true b h = refl
or-left false b h = cc

without : (a b c : Truth) → b ≡ false → (a || (b || c)) ≡ true → (a || c) ≡ true
without a false c e h = h
without a true c e h = cc

none-left : (a : Truth) → (a || false) ≡ true → a ≡ true
none-left true h = refl
none-left false h = h

fits-but : (given : List ℕ) (i : ℕ) (cs : List Column) (vs : List Value) → fits_all cs vs ≡ true → fits_but given i cs vs ≡ true
fits-but given i [] [] h = refl
fits-but given i [] (v ∷ vs) h = cc
fits-but given i (c ∷ cs) [] h = cc
fits-but given i (c ∷ cs) (v ∷ vs) h =
    let parts = and_parts (fits c v) (fits_all cs vs) h in
    and_from (fits c v || list_any (λ place. place == i) given) (fits_but given (i + 1) cs vs) (or-left (fits c v) (list_any (λ place. place == i) given) parts.0) (fits-but given (i + 1) cs vs parts.1)

fits-whole : (i : ℕ) (cs : List Column) (vs : List Value) → fits_but [] i cs vs ≡ true → fits_all cs vs ≡ true
fits-whole i [] [] h = refl
fits-whole i [] (v ∷ vs) h = cc
fits-whole i (c ∷ cs) [] h = cc
fits-whole i (c ∷ cs) (v ∷ vs) h =
    let parts = and_parts (fits c v || false) (fits_but [] (i + 1) cs vs) h in
    and_from (fits c v) (fits_all cs vs) (none-left (fits c v) parts.0) (fits-whole (i + 1) cs vs parts.1)

apart : (p i : ℕ) → p < i → (p == i) ≡ false
apart p i l = by (p == i) refl
  where
    by : (t : Truth) → (p == i) ≡ t → (p == i) ≡ false
    by false e = e
    by true e = let same : p ≡ i = eqb-true p i e in absurd (omega arith)

-- a place before these columns is none of theirs
fits-later : (p : ℕ) (given : List ℕ) (i : ℕ) (cs : List Column) (vs : List Value) → p < i → fits_but (p ∷ given) i cs vs ≡ true → fits_but given i cs vs ≡ true
fits-later p given i [] [] l h = refl
fits-later p given i [] (v ∷ vs) l h = cc
fits-later p given i (c ∷ cs) [] l h = cc
fits-later p given i (c ∷ cs) (v ∷ vs) l h =
    let any = list_any (λ place. place == i) given in
    let parts = and_parts (fits c v || ((p == i) || any)) (fits_but (p ∷ given) (i + 1) cs vs) h in
    let on : p < i + 1 = omega arith in
    and_from (fits c v || any) (fits_but given (i + 1) cs vs) (without (fits c v) (p == i) any (apart p i l) parts.0) (fits-later p given (i + 1) cs vs on parts.1)

fits-written : (p : ℕ) (given : List ℕ) (i k : ℕ) (w : Value) (cs : List Column) (vs : List Value) → p ≡ i + k → fits_at (slice_get cs k) w ≡ true
    → fits_but (p ∷ given) i cs vs ≡ true → fits_but given i cs (slice_set vs k w) ≡ true
fits-written p given i k w [] [] e f h = refl
fits-written p given i k w [] (v ∷ vs) e f h = cc
fits-written p given i k w (c ∷ cs) [] e f h = cc
fits-written p given i zero w (c ∷ cs) (v ∷ vs) e f h =
    let any = list_any (λ place. place == i) given in
    let parts = and_parts (fits c v || ((p == i) || any)) (fits_but (p ∷ given) (i + 1) cs vs) h in
    let on : p < i + 1 = omega arith in
    and_from (fits c w || any) (fits_but given (i + 1) cs vs) (or-left (fits c w) any f) (fits-later p given (i + 1) cs vs on parts.1)
fits-written p given i (suc k) w (c ∷ cs) (v ∷ vs) e f h =
    let any = list_any (λ place. place == i) given in
    let parts = and_parts (fits c v || ((p == i) || any)) (fits_but (p ∷ given) (i + 1) cs vs) h in
    let moved : p ≡ i + 1 + k = omega arith in
    and_from (fits c v || any) (fits_but given (i + 1) cs (slice_set vs k w)) (without (fits c v) (p == i) any (above p i (omega arith)) parts.0) (fits-written p given (i + 1) k w cs vs moved f parts.1)
  where
    above : (p i : ℕ) → i < p → (p == i) ≡ false
    above p i l = by (p == i) refl
      where
        by : (t : Truth) → (p == i) ≡ t → (p == i) ≡ false
        by false e = e
        by true e = let same : p ≡ i = eqb-true p i e in absurd (omega arith)

-- once each carried cell is written, the whole row fits
with-fits : (s : Layout) (given : List ℕ) (cells row : List Value) → fits_given s given cells ≡ true → fits_but given 0 s.columns row ≡ true → fits_row s (with_cells given cells row) ≡ true
with-fits s [] [] row f h = fits-whole 0 s.columns row h
with-fits s [] (v ∷ vs) row f h = cc
with-fits s (p ∷ ps) [] row f h = cc
with-fits s (p ∷ ps) (v ∷ vs) row f h =
    let parts = and_parts (fits_at (slice_get s.columns p) v) (fits_given s ps vs) f in
    let from-first : p ≡ 0 + p = omega arith in
    with-fits s ps vs (slice_set row p v) parts.1 (fits-written p ps 0 p v s.columns row from-first parts.0 h)

-- ---- a new row lacks only needed columns, and these are carried

null-or-carried : (n a : Truth) → (not (true && not n) || a) ≡ true → (n || a) ≡ true
null-or-carried true a h = refl
null-or-carried false a h = h

default-fits : (c : Column) (a : Truth) → (not (is_needed c) || a) ≡ true → default_fits c ≡ true → (fits c (default_cell c) || a) ≡ true
default-fits c a n h = by c.default n h
  where
    by : (d : Option Value) → (not (not (is_some d) && not c.nullable) || a) ≡ true → option_map_or (λ v. fits c v) d true ≡ true → (fits c (unwrap_or d Null) || a) ≡ true
    by None n h = null-or-carried c.nullable a n
    by (Some v) n h = or-left (fits c v) a h

defaults-fit : (given : List ℕ) (i : ℕ) (cs : List Column) → carries_needed given i cs ≡ true → ((j : ℕ) (c : Column) → slice_get cs j ≡ Some c → default_fits c ≡ true)
    → fits_but given i cs (map default_cell cs) ≡ true
defaults-fit given i [] n d = refl
defaults-fit given i (c ∷ cs) n d =
    let any = list_any (λ place. place == i) given in
    let parts = and_parts (not (is_needed c) || any) (carries_needed given (i + 1) cs) n in
    and_from (fits c (default_cell c) || any) (fits_but given (i + 1) cs (map default_cell cs)) (default-fits c any parts.0 (d 0 c refl)) (defaults-fit given (i + 1) cs parts.1 (λ j e q. d (suc j) e q))

new-fits : (given : List ℕ) (n i k : ℕ) (cs : List Column) (key : List Value) → k ≡ i + n → n ≤ length cs → fits_all (take n cs) key ≡ true → carries_needed given k (drop n cs) ≡ true
    → ((j : ℕ) (c : Column) → slice_get cs j ≡ Some c → default_fits c ≡ true) → fits_but given i cs (key ++ map default_cell (drop n cs)) ≡ true
new-fits given zero i k cs [] p l f n d = let same : k ≡ i = omega arith in defaults-fit given i cs (subst (λ j. carries_needed given j cs ≡ true) same n) d
new-fits given zero i k cs (v ∷ key) p l f n d = cc
new-fits given (suc m) i k [] key p l f n d = absurd (omega arith)
new-fits given (suc m) i k (c ∷ cs) [] p l f n d = cc
new-fits given (suc m) i k (c ∷ cs) (v ∷ key) p l f n d =
    let parts = and_parts (fits c v) (fits_all (take m cs) key) f in
    let on : k ≡ i + 1 + m = omega arith in
    let short : m ≤ length cs = omega arith in
    and_from (fits c v || list_any (λ place. place == i) given) (fits_but given (i + 1) cs (key ++ map default_cell (drop m cs)))
    (or-left (fits c v) (list_any (λ place. place == i) given) parts.0)
    (new-fits given m (i + 1) k cs key on short parts.1 n (λ j e q. d (suc j) e q))

-- ---- one line, and all of them

module _ (s : Layout) (valid : schema_fault s.columns s.keys ≡ None) (given : List ℕ) (rise : rise_within s.keys (length s.columns) given ≡ true)
    (needed : carries_needed given s.keys (drop s.keys s.columns) ≡ true) where
  row-fits : (key cells : List Value) (old : Option (List Value)) → fits_line s given (Upsert key cells) ≡ true → ((r : List Value) → old ≡ Some r → fits_row s r ≡ true)
      → fits_row s (with_cells given cells (unwrap_or old (new_row s key))) ≡ true
  row-fits key cells old f h = with-fits s given cells (unwrap_or old (new_row s key)) parts.1 (by old h)
    where
      parts : (fits_key s key ≡ true) × (fits_given s given cells ≡ true)
      parts = and_parts (fits_key s key) (fits_given s given cells) f

      by : (o : Option (List Value)) → ((r : List Value) → o ≡ Some r → fits_row s r ≡ true) → fits_but given 0 s.columns (unwrap_or o (new_row s key)) ≡ true
      by None g = new-fits given s.keys 0 s.keys s.columns key (omega arith) (keys_within s.columns s.keys valid) parts.0 needed (λ j c e. (lawful_column s j c valid e).default_fitting)
      by (Some r) g = fits-but given 0 s.columns r (g r refl)

  row-lawful : (op : Op) (old : Option (List Value)) (row : List Value) → fits_line s given op ≡ true → HasShortKey s op → ((r : List Value) → old ≡ Some r → IsLawfulRow s (key_named op) r)
      → row_after s given op old ≡ Some row → IsLawfulRow s (key_named op) row
  row-lawful (Delete key) old row f short h e = cc
  row-lawful (Upsert key cells) old row f short h e = record {
    fits = subst (λ r. fits_row s r ≡ true) (same_Some (with_cells given cells (unwrap_or old (new_row s key))) row e) (row-fits key cells old f (λ r q. (h r q).fits));
    key_first = row-key s given (length s.columns) (Upsert key cells) old row rise f (λ r q. (h r q).key_first) e;
    short = short;
  }

  line-keeps : (op : Op) (m : Rows) → fits_line s given op ≡ true → HasShortKey s op → AreLawfulRows s m → AreLawfulRows s (act s given op m)
  line-keeps op m f short h key row e = by (eq_by_cmp key_cmp key (key_named op)) refl (sym (get-act s given op m key) ∙ e)
    where
      by : (t : Truth) → eq_by_cmp key_cmp key (key_named op) ≡ t → cond t (row_after s given op (get m key)) (get m key) ≡ Some row → IsLawfulRow s key row
      by true t w =
          let same : key ≡ key_named op = key_exact key (key_named op) (equal _ t) in
          subst (λ k. IsLawfulRow s k row) (sym same) (row-lawful op (get m key) row f short (λ r q. subst (λ k. IsLawfulRow s k r) same (h key r q)) w)
      by false t w = h key row w

  lines-keep : (ops : List Op) (m : Rows) → list_all (fits_line s given) ops ≡ true → All (HasShortKey s) ops → AreLawfulRows s m → AreLawfulRows s (after_lines s given ops m)
  lines-keep [] m f short h = h
  lines-keep (op ∷ ops) m f short h =
      let parts = and_parts (fits_line s given op) (list_all (fits_line s given) ops) f in
      lines-keep ops (act s given op m) parts.1 (All-tail (HasShortKey s) op ops short) (line-keeps op m parts.0 (All-head (HasShortKey s) op ops short) h)

pub loads-keep : LawfulLoadsKeepRows
loads-keep s load m valid lawful h = lines-keep s valid load.given lawful.given lawful.needed load.ops m lawful.lines lawful.codes h

-- ---- a book

past : (b : Book) (v : ℕ) → version b < v → rows_at b v ≡ None
past b v l = kept b v (omega arith) ∙ slice_get_past (b.older ++ b.current ∷ []) (v - b.floor) (omega (arith, length-append b.older (b.current ∷ [])))

none-some : {X : Type 0} (x : X) (P : Type 0) → None ≡ Some x → P
none-some x P e = cc

pub new-lawful : NewBooksRowsAreLawful
new-lawful s = record { kept = λ v m e. by (v - 0) m (sym (kept new_book v (omega arith)) ∙ e); planned = λ p e. none-some p _ e }
  where
    empty-lawful : AreLawfulRows s (fin.empty {R = key_cmp})
    empty-lawful key row e = none-some row _ (sym (fin.get-empty key_cmp key) ∙ e)

    by : (i : ℕ) (m : Rows) → slice_get (fin.empty {R = key_cmp} ∷ []) i ≡ Some m → AreLawfulRows s m
    by zero m e = subst (AreLawfulRows s) (same_Some _ m e) empty-lawful
    by (suc i) m e = none-some m _ e

module _ (s : Layout) (valid : schema_fault s.columns s.keys ≡ None) (b : Book) (h : HasLawfulRows s b) where
  current-lawful : AreLawfulRows s b.current
  current-lawful = h.kept (version b) b.current (current-rows b)

  published : (load : Load) → IsLawful s load → HasLawfulRows s (publish s b load)
  published load lawful = record { kept = rows; planned = λ p e. by b.plan p h.planned e }
    where
      by : (o : Option Plan) (p : Plan) → ((q : Plan) → o ≡ Some q → AreLawfulRows s q.rows) → option_map (touch load) o ≡ Some p → AreLawfulRows s p.rows
      by None p f e = none-some p _ e
      by (Some q) p f e = subst (λ (r : Plan). AreLawfulRows s r.rows) (same_Some (touch load q) p e) (f q refl)

      rows : (v : ℕ) (m : Rows) → rows_at (publish s b load) v ≡ Some m → AreLawfulRows s m
      rows v m e = elim (cases_lt (version b) v) [
        | inl above ↦ elim (cases_lt (version b + 1) v) [
          | inl beyond ↦ none-some m _ (sym (past (publish s b load) v (omega (arith, length-append b.older (b.current ∷ [])))) ∙ e)
          | inr last ↦
              let same : version b + 1 ≡ v = omega arith in
              let got : Some (after s load b.current) ≡ Some m = sym (new-version s b load) ∙ ap (rows_at (publish s b load)) same ∙ e in
              subst (AreLawfulRows s) (same_Some (after s load b.current) m got) (loads-keep s load b.current valid lawful current-lawful)
        ]
        | inr within ↦ h.kept v m (sym (older-stay s b load v within) ∙ e)
      ]

  loaded : (load : Load) (t : Truth) → IsLawful s load → HasLawfulRows s (cond t b (publish s b load))
  loaded load true lawful = h
  loaded load false lawful = published load lawful

  begun : (place : ℕ) (p : Option Plan) → HasLawfulRows s (change_begin b place p)
  begun place None = record {
    kept = h.kept;
    planned = λ p e. subst (λ (r : Plan). AreLawfulRows s r.rows) (same_Some _ p e) current-lawful;
  }
  begun place (Some p) = h

  ended : (p : Option Plan) → HasLawfulRows s (change_end b p)
  ended None = h
  ended (Some p) = record { kept = h.kept; planned = λ q e. none-some q _ e }

  given-up : (p : Option Plan) → HasLawfulRows s (change_give_up b p)
  given-up None = h
  given-up (Some p) = record { kept = h.kept; planned = λ q e. none-some q _ e }

  floored : (f : ℕ) (t : Truth) → nat_lt (version b) f ≡ t → HasLawfulRows s (cond t b (record b { floor = max b.floor f; older = drop (f - b.floor) b.older }))
  floored f true e = h
  floored f false e = record { kept = λ v m q. by v m (nat_lt v (max b.floor f)) (sym (drops v) ∙ q); planned = h.planned }
    where
      within : f ≤ version b
      within = ltb-false (version b) f e

      drops : (v : ℕ) → rows_at (record b { floor = max b.floor f; older = drop (f - b.floor) b.older }) v ≡ (if nat_lt v (max b.floor f) then None else rows_at b v)
      drops v = ap (λ n. rows_at n v) (sym (expired b f within)) ∙ expiry-drops b f v within

      by : (v : ℕ) (m : Rows) (t : Truth) → cond t None (rows_at b v) ≡ Some m → AreLawfulRows s m
      by v m true q = none-some m _ q
      by v m false q = h.kept v m q

  called : (place : ℕ) (c : Call) → IsLawfulCall s c → HasLawfulRows s (open_change s b place c)
  called place (call.Load load) lawful = loaded load (is_full b) lawful
  called place (call.Open want) lawful = h
  called place call.Begin lawful = begun place b.plan
  called place (call.End at) lawful = ended (plan_at b.plan at)
  called place (call.GiveUp at) lawful = given-up (plan_at b.plan at)
  called place (call.Expire v) lawful = floored v (nat_lt (version b) v) refl
  called place call.Stat lawful = h

  changed : (place : ℕ) (c : Call) → IsLawfulCall s c → HasLawfulRows s (change s b place c)
  changed place c lawful = by b.closed
    where
      by : (o : Option ℕ) → HasLawfulRows s (change_unless o b (open_change s b place c))
      by None = called place c lawful
      by (Some p) = h

pub calls-keep : CallsKeepRows
calls-keep s b place c r valid lawful h = after-reply (HasLawfulRows s) s b place c r h (record { kept = h.kept; planned = h.planned }) (changed s valid b h place c lawful)

pub histories-keep : HistoriesKeepRows
histories-keep s b place [] valid lawful h = h
histories-keep s b place (e ∷ es) valid lawful h = histories-keep s (next s b place e.0 e.1) (place + 1) es valid lawful.1 (calls-keep s b place e.0 e.1 valid lawful.0 h)

-- ---- rows as a list

-- what holds of each key with its row holds of the list of either
each-listed : (m : Rows) (part : Pair → List Value) (Q : List Value → Type 0) → ((key row : List Value) → get m key ≡ Some row → Q (part (key, row)))
    → (low es : List Pair) → entries m ≡ low ++ es → All Q (map part es)
each-listed m part Q f low [] e = All-nil Q
each-listed m part Q f low (p ∷ es) e =
    let all : T (is_sorted key_cmp (low ++ p ∷ es)) = subst (λ l. T (is_sorted key_cmp l)) e (entries_sorted m) in
    let here : T (is_sorted key_cmp (low ++ p ∷ [])) = sorted-head (low ++ p ∷ []) es (subst (λ l. T (is_sorted key_cmp l)) (sym (append_assoc low (p ∷ []) es)) all) in
    let got : get m p.0 ≡ Some p.1 = get-entries m p.0 ∙ ap (find key_cmp p.0) e ∙ find-below p.0 low (p ∷ es) (sorted-last low p.0 p.1 here) ∙ find-here p.0 p.1 es in
    All-cons Q (part p) (map part es) (f p.0 p.1 got) (each-listed m part Q f (low ++ p ∷ []) es (e ∙ sym (append_assoc low (p ∷ []) es)))

pub rows-fit : ListedRowsFit
rows-fit s m h = each-listed m (λ p. p.1) (λ row. IsTrue (fits_row s row)) (λ key row e. (h key row e).fits) [] (entries m) refl

pub keys-fit : ListedKeysFit
keys-fit s m h = each-listed m (λ p. p.0) (λ key. IsTrue (fits_key s key) × length (key_code s key) ≤ most_code_bytes)
    (λ key row e. by key row (h key row e)) [] (entries m) refl
  where
    by : (key row : List Value) → IsLawfulRow s key row → IsTrue (fits_key s key) × length (key_code s key) ≤ most_code_bytes
    by key row l = (subst (λ k. fits_key s k ≡ true) l.key_first (fits_all-take s.keys s.columns row l.fits), l.short)
