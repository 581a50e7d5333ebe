-- What lines with a condition come to.
use Rattle.std.proofs.Common.{◌≡◌, ◌↔◌, refl, ap, sym, ◌∙◌, ℕ, ◌+◌, ◌<◌, ◌≤◌, zero, suc, List, [], ◌∷◌, ◌++◌, length, map, take, drop, arith, Option, Some, None, slice_set, Bool as Truth, true, false, cond, not, ◌&&◌, ◌||◌, ◌==◌, nat_le, nat_lt, length-set, append_assoc, length-append, length-drop}
use Rattle.std.proofs.lemmas.List.{length-map}
use Rattle.std.specs.List.{list_any, list_all}
use Rattle.std.specs.Ordering.{eq_by_cmp, is_lt}
use Rattle.std.specs.FinMap.{get}
use Rattle.std.proofs.lemmas.Map.Views.{tells_apart}
use Rattle.pk_values.specs.Fits.{fits, fits_all}
use Rattle.pk_values.specs.Order.{key_cmp, value_cmp}
use Rattle.pk_values.specs.OrderFacts.{key_exact}
use Rattle.pk_values.specs.SchemaFacts.{length-fits_all}
use Rattle.pk_values.specs.Schemas.{Layout, fits_key, key_of}
use Rattle.pk_values.specs.declared.cells.Column.{Column}
use Rattle.pk_values.specs.declared.cells.Value.{Value}
use Rattle.pk_model.specs.declared.calls.Op.{Op}
use Rattle.pk_model.specs.declared.calls.Op.TheVariants.{Upsert, Delete}
use Rattle.pk_model.specs.Lawful.{rise_within, fits_line, fits_given, fits_at}
use Rattle.pk_model.specs.Tables.{Rows, default_cell, key_named, new_row, touches, with_cells}
use Rattle.pk_model.proofs.CellLaws.{first_true, second_true}
use Rattle.index_level0.specs.declared.place.Place.{Place}
use Rattle.rowsets.specs.Live.{live, is_among, HasKey, HasRow}
use Rattle.rowsets.specs.Marks.{marked, stands_in}
use Rattle.rowsets.specs.Loads.{AreRows}
use Rattle.rowsets.proofs.LiveFacts.{live-marked, live-before}
use Rattle.partial_loads.specs.declared.changes.KeyChange.{KeyChange}
use Rattle.partial_loads.specs.declared.changes.KeyChange.TheVariants.{Keep, Remove, Renew, Overlay}
use Rattle.partial_loads.specs.Folds.{apply, carried, cell_at, change_at, change_of, composed, is_held, result_when, row_when, stronger, CanJudge}
use Rattle.partial_loads.specs.Conditions.{candidate, holds_back, ResultIsCandidate, takes_effect, some_takes_effect, EffectIsNotHeld, CandidatesMake}
use Rattle.partial_loads.proofs.FoldFacts.{below-below, fold_is_lines, lines-fit, not_below-not_below}
use borrow.Author.Tests.{leb-true, ltb-true}

-- cells for each column from a on take the place of all cells from a on
few : (a b : ℕ) (given : List ℕ) → rise_within a b given ≡ true → a ≤ b → a + length given ≤ b
few a b [] h le = omega arith
few a b (c ∷ cs) h le =
    let within = first_true (nat_le a c && nat_lt c b) (rise_within (c + 1) b cs) h in
    let from : a ≤ c = leb-true a c (first_true (nat_le a c) (nat_lt c b) within) in
    let below : c < b = ltb-true c b (second_true (nat_le a c) (nat_lt c b) within) in
    let more = few (c + 1) b cs (second_true (nat_le a c && nat_lt c b) (rise_within (c + 1) b cs) h) (omega arith) in
    omega arith

take-set : (a n : ℕ) (row : List Value) (v : Value) → n ≡ a + 1 → a < length row → take n (slice_set row a v) ≡ take a row ++ v ∷ []
take-set a n [] v e h = absurd (omega arith)
take-set a zero (x ∷ row) v e h = absurd (omega arith)
take-set zero (suc n) (x ∷ row) v e h = let none : n ≡ 0 = omega arith in ap (λ i. v ∷ take i row) none
take-set (suc a) (suc n) (x ∷ row) v e h = ap (λ r. x ∷ r) (take-set a n row v (omega arith) (omega arith))

take-whole : (row : List Value) (n : ℕ) → n ≡ length row → take n row ≡ row
take-whole [] zero h = refl
take-whole [] (suc n) h = refl
take-whole (x ∷ row) zero h = absurd (omega arith)
take-whole (x ∷ row) (suc n) h = ap (λ r. x ∷ r) (take-whole row n (omega arith))

append-none : (xs : List Value) → xs ++ [] ≡ xs
append-none [] = refl
append-none (x ∷ xs) = ap (λ r. x ∷ r) (append-none xs)

all_cells : (a b : ℕ) (given : List ℕ) (cells row : List Value) → rise_within a b given ≡ true → a + length given ≡ b → length cells ≡ length given → length row ≡ b
    → with_cells given cells row ≡ take a row ++ cells
all_cells a b [] [] row h all same long = sym (append-none (take a row) ∙ take-whole row a (omega arith))
all_cells a b [] (v ∷ vs) row h all same long = absurd (omega arith)
all_cells a b (c ∷ cs) [] row h all same long = absurd (omega arith)
all_cells a b (c ∷ cs) (v ∷ vs) row h all same long =
    let within = first_true (nat_le a c && nat_lt c b) (rise_within (c + 1) b cs) h in
    let rest_rises = second_true (nat_le a c && nat_lt c b) (rise_within (c + 1) b cs) h in
    let from : a ≤ c = leb-true a c (first_true (nat_le a c) (nat_lt c b) within) in
    let below : c < b = ltb-true c b (second_true (nat_le a c) (nat_lt c b) within) in
    let most = few (c + 1) b cs rest_rises (omega arith) in
    let first : c ≡ a = omega arith in
    let rest : c + 1 + length cs ≡ b = omega arith in
    all_cells (c + 1) b cs vs (slice_set row c v) rest_rises rest (omega arith) (length-set row c v ∙ long)
    ∙ ap (λ r. r ++ vs) (take-set c (c + 1) row v refl (omega arith) ∙ ap (λ i. take i row ++ v ∷ []) first)
    ∙ append_assoc (take a row) (v ∷ []) vs

first_cells : (n : ℕ) (cs : List Column) (key more : List Value) → fits_all (take n cs) key ≡ true → n ≤ length cs → (take n (key ++ more) ≡ key) × (length key ≡ n)
first_cells zero cs [] more h le = (refl, refl)
first_cells zero cs (v ∷ key) more h le = cc
first_cells (suc n) [] key more h le = absurd (omega arith)
first_cells (suc n) (c ∷ cs) [] more h le = cc
first_cells (suc n) (c ∷ cs) (v ∷ key) more h le =
    let r = first_cells n cs key more (second_true (fits c v) (fits_all (take n cs) key) h) (omega arith) in
    (ap (λ k. v ∷ k) r.0, ap suc r.1)

given_cells : (s : Layout) (given : List ℕ) (cells : List Value) → fits_given s given cells ≡ true → length cells ≡ length given
given_cells s [] [] h = refl
given_cells s [] (v ∷ vs) h = cc
given_cells s (c ∷ cs) [] h = cc
given_cells s (c ∷ cs) (v ∷ vs) h = ap suc (given_cells s cs vs (second_true (fits_at _ v) (fits_given s cs vs) h))

-- the key that a line names fits
key_fits : (s : Layout) (given : List ℕ) (op : Op) → fits_line s given op ≡ true → fits_key s (key_named op) ≡ true
key_fits s given (Delete key) h = h
key_fits s given (Upsert key cells) h = first_true (fits_key s key) (fits_given s given cells) h

named_fits : (s : Layout) (given : List ℕ) (ops : List Op) (k : List Value) → list_all (fits_line s given) ops ≡ true → is_among (touches ops) k ≡ true → fits_key s k ≡ true
named_fits s given [] k h e = cc
named_fits s given (op ∷ ops) k h e =
    go (eq_by_cmp key_cmp k (key_named op)) refl e (named_fits s given ops k (second_true (fits_line s given op) (list_all (fits_line s given) ops) h))
  where
    go : (b : Truth) → eq_by_cmp key_cmp k (key_named op) ≡ b → (b || is_among (touches ops) k) ≡ true → (is_among (touches ops) k ≡ true → fits_key s k ≡ true) → fits_key s k ≡ true
    go true same e more =
        ap (fits_key s) (tells_apart key_exact k (key_named op) same) ∙ key_fits s given op (first_true (fits_line s given op) (list_all (fits_line s given) ops) h)
    go false same e more = more e

-- a change has just one cell for each carried column
abbrev IsExact : List ℕ → KeyChange → Type 0
IsExact given Keep = Unit {0}
IsExact given Remove = Unit {0}
IsExact given (Renew cells) = length cells ≡ length given
IsExact given (Overlay cells) = length cells ≡ length given

stronger-exact : (given : List ℕ) (when : Option ℕ) (before cells : List Value) → length before ≡ length given → length cells ≡ length given → length (stronger given when before cells) ≡ length given
stronger-exact given None before cells l k = k
stronger-exact given (Some c) before cells l k = go (is_lt (value_cmp (carried given cells c) (carried given before c)))
  where
    go : (t : Truth) → length (cond t before cells) ≡ length given
    go true = l
    go false = k

composed-exact : (given : List ℕ) (when : Option ℕ) (first second : KeyChange) → IsExact given first → IsExact given second → IsExact given (composed given when first second)
composed-exact given when first Keep l k = l
composed-exact given when first Remove l k = tt
composed-exact given when first (Renew cells) l k = k
composed-exact given when Keep (Overlay cells) l k = k
composed-exact given when Remove (Overlay cells) l k = k
composed-exact given when (Renew before) (Overlay cells) l k = stronger-exact given when before cells l k
composed-exact given when (Overlay before) (Overlay cells) l k = stronger-exact given when before cells l k

line-exact : (s : Layout) (given : List ℕ) (op : Op) (t : Truth) → fits_line s given op ≡ true → IsExact given (cond t (change_of op) Keep)
line-exact s given op false h = tt
line-exact s given (Delete key) true h = tt
line-exact s given (Upsert key cells) true h = given_cells s given cells (second_true (fits_key s key) (fits_given s given cells) h)

changes-exact : (s : Layout) (given : List ℕ) (when : Option ℕ) (ops : List Op) (k : List Value) → list_all (fits_line s given) ops ≡ true → IsExact given (change_at given when ops k)
changes-exact s given when [] k h = tt
changes-exact s given when (op ∷ ops) k h =
    composed-exact given when (cond (eq_by_cmp key_cmp k (key_named op)) (change_of op) Keep) (change_at given when ops k)
    (line-exact s given op (eq_by_cmp key_cmp k (key_named op)) (first_true (fits_line s given op) (list_all (fits_line s given) ops) h))
    (changes-exact s given when ops k (second_true (fits_line s given op) (list_all (fits_line s given) ops) h))

-- a change after none, and which changes are none
keep-first : (given : List ℕ) (when : Option ℕ) (c : KeyChange) → composed given when Keep c ≡ c
keep-first given when Keep = refl
keep-first given when Remove = refl
keep-first given when (Renew cells) = refl
keep-first given when (Overlay cells) = refl

abbrev is_keep : KeyChange → Truth
is_keep Keep = true
is_keep Remove = false
is_keep (Renew cells) = false
is_keep (Overlay cells) = false

keep-line : (given : List ℕ) (when : Option ℕ) (op : Op) (c : KeyChange) → is_keep (composed given when (change_of op) c) ≡ false
keep-line given when (Delete key) Keep = refl
keep-line given when (Delete key) Remove = refl
keep-line given when (Delete key) (Renew cells) = refl
keep-line given when (Delete key) (Overlay cells) = refl
keep-line given when (Upsert key before) Keep = refl
keep-line given when (Upsert key before) Remove = refl
keep-line given when (Upsert key before) (Renew cells) = refl
keep-line given when (Upsert key before) (Overlay cells) = refl

-- lines come to no change exactly where none names the key
keep-named : (given : List ℕ) (when : Option ℕ) (ops : List Op) (k : List Value) → is_keep (change_at given when ops k) ≡ not (is_among (touches ops) k)
keep-named given when [] k = refl
keep-named given when (op ∷ ops) k = go (eq_by_cmp key_cmp k (key_named op)) (keep-named given when ops k)
  where
    go : (b : Truth) → is_keep (change_at given when ops k) ≡ not (is_among (touches ops) k)
        → is_keep (composed given when (cond b (change_of op) Keep) (change_at given when ops k)) ≡ not (b || is_among (touches ops) k)
    go true more = keep-line given when op (change_at given when ops k)
    go false more = ap is_keep (keep-first given when (change_at given when ops k)) ∙ more

module _ (s : Layout) (given : List ℕ) (c : ℕ) (rises : rise_within s.keys (length s.columns) given ≡ true) (whole : s.keys + length given ≡ length s.columns) (column : list_any (λ p. p == c) given ≡ true) where
  new_is : (k : List Value) → fits_key s k ≡ true → (length (new_row s k) ≡ length s.columns) × (key_of s (new_row s k) ≡ k)
  new_is k fit =
      let key_is = first_cells s.keys s.columns k (map default_cell (drop s.keys s.columns)) fit (omega arith) in (
        length-append k (map default_cell (drop s.keys s.columns)) ∙ ap (λ n. n + length (map default_cell (drop s.keys s.columns))) key_is.1
            ∙ ap (λ n. s.keys + n) (length-map (drop s.keys s.columns) default_cell ∙ length-drop s.keys s.columns) ∙ omega arith,
        key_is.0,
      )

  whole_row : (k cells row : List Value) → length cells ≡ length given → length row ≡ length s.columns → key_of s row ≡ k → with_cells given cells row ≡ k ++ cells
  whole_row k cells row same long first = all_cells s.keys (length s.columns) given cells row rises whole same long ∙ ap (λ q. q ++ cells) first

  -- what may stand at a key
  abbrev MayStand : List Value → Option (List Value) → Type 0
  MayStand k old = (row : List Value) → old ≡ Some row → (length row ≡ length s.columns) × (key_of s row ≡ k)

  judged : (k : List Value) (old : Option (List Value)) → fits_key s k ≡ true → MayStand k old → CanJudge s given k old c
  judged k old fit may = record {
    carries = column;
    new = let is = (new_is k fit).0 in omega arith;
    whole = λ row e. let is = (may row e).0 in omega arith;
  }

  -- a change that is none leaves the row, and another the candidate where it isn't held back
  change_is : (k : List Value) (change : KeyChange) (old : Option (List Value)) → fits_key s k ≡ true → MayStand k old → IsExact given change
      → apply s given (Some c) k change old ≡ cond (not (is_keep change) && not (holds_back given c change old)) (candidate k change) old
  change_is k Keep old fit may exact = refl
  change_is k Remove old fit may exact = refl
  change_is k (Renew cells) old fit may exact = let new = new_is k fit in ap Some (whole_row k cells (new_row s k) exact new.0 new.1)
  change_is k (Overlay cells) None fit may exact = let new = new_is k fit in ap Some (whole_row k cells (new_row s k) exact new.0 new.1)
  change_is k (Overlay cells) (Some row) fit may exact = go (is_held given (Some c) cells row)
    where
      go : (t : Truth) → Some (cond t row (with_cells given cells row)) ≡ cond (true && not t) (Some (k ++ cells)) (Some row)
      go true = refl
      go false = let stands = may row refl in ap Some (whole_row k cells row exact stands.0 stands.1)

  -- after an upsert that takes effect the change isn't held back
  not_held_after : (cells row : List Value) (later : KeyChange) → is_held given (Some c) cells row ≡ false → holds_back given c (composed given (Some c) (Overlay cells) later) (Some row) ≡ false
  not_held_after cells row Keep h = h
  not_held_after cells row Remove h = refl
  not_held_after cells row (Renew more) h = refl
  not_held_after cells row (Overlay more) h = go (is_lt (value_cmp (carried given more c) (carried given cells c))) refl
    where
      go : (t : Truth) → is_lt (value_cmp (carried given more c) (carried given cells c)) ≡ t → is_held given (Some c) (cond t cells more) row ≡ false
      go true e = h
      go false e = not_below-not_below (carried given more c) (carried given cells c) (cell_at row c) e h

  -- after one that doesn't, it is held back as the later lines are
  held_after : (cells row : List Value) (later : KeyChange) → is_held given (Some c) cells row ≡ true → not (holds_back given c (composed given (Some c) (Overlay cells) later) (Some row)) ≡ (not (is_keep later) && not (holds_back given c later (Some row)))
  held_after cells row Keep h = ap not h
  held_after cells row Remove h = refl
  held_after cells row (Renew more) h = refl
  held_after cells row (Overlay more) h = go (is_lt (value_cmp (carried given more c) (carried given cells c))) refl
    where
      go : (t : Truth) → is_lt (value_cmp (carried given more c) (carried given cells c)) ≡ t → not (is_held given (Some c) (cond t cells more) row) ≡ not (is_held given (Some c) more row)
      go true e = ap not (h ∙ sym (below-below (carried given more c) (carried given cells c) (cell_at row c) e h))
      go false e = refl

  after_delete : (later : KeyChange) (old : Option (List Value)) → holds_back given c (composed given (Some c) Remove later) old ≡ false
  after_delete Keep old = refl
  after_delete Remove old = refl
  after_delete (Renew cells) old = refl
  after_delete (Overlay cells) old = refl

  no_row : (change : KeyChange) → holds_back given c change None ≡ false
  no_row Keep = refl
  no_row Remove = refl
  no_row (Renew cells) = refl
  no_row (Overlay cells) = refl

  effects : (ops : List Op) (k : List Value) (old : Option (List Value))
      → some_takes_effect s given (Some c) ops k old ≡ (not (is_keep (change_at given (Some c) ops k)) && not (holds_back given c (change_at given (Some c) ops k) old))
  effects [] k old = refl
  effects (op ∷ ops) k old = go (eq_by_cmp key_cmp k (key_named op)) op old (effects ops k)
    where
      named : (op : Op) (old : Option (List Value)) → holds_back given c (composed given (Some c) (change_of op) (change_at given (Some c) ops k)) old ≡ false
          → true ≡ (not (is_keep (composed given (Some c) (change_of op) (change_at given (Some c) ops k))) && not (holds_back given c (composed given (Some c) (change_of op) (change_at given (Some c) ops k)) old))
      named op old h =
          sym (ap (λ b. not b && not (holds_back given c (composed given (Some c) (change_of op) (change_at given (Some c) ops k)) old)) (keep-line given (Some c) op (change_at given (Some c) ops k)) ∙ ap (λ b. true && not b) h)

      go : (b : Truth) (op : Op) (old : Option (List Value))
          → ((old : Option (List Value)) → some_takes_effect s given (Some c) ops k old ≡ (not (is_keep (change_at given (Some c) ops k)) && not (holds_back given c (change_at given (Some c) ops k) old)))
          → ((b && takes_effect given (Some c) op old) || some_takes_effect s given (Some c) ops k (cond b (row_when s given (Some c) op old) old))
          ≡ (not (is_keep (composed given (Some c) (cond b (change_of op) Keep) (change_at given (Some c) ops k))) && not (holds_back given c (composed given (Some c) (cond b (change_of op) Keep) (change_at given (Some c) ops k)) old))
      go false op old more = more old ∙ ap (λ x. not (is_keep x) && not (holds_back given c x old)) (sym (keep-first given (Some c) (change_at given (Some c) ops k)))
      go true (Delete key) old more = named (Delete key) old (after_delete (change_at given (Some c) ops k) old)
      go true (Upsert key cells) None more = named (Upsert key cells) None (no_row (composed given (Some c) (Overlay cells) (change_at given (Some c) ops k)))
      go true (Upsert key cells) (Some row) more = held (is_held given (Some c) cells row) refl
        where
          held : (t : Truth) → is_held given (Some c) cells row ≡ t
              → (not t || some_takes_effect s given (Some c) ops k (Some (cond t row (with_cells given cells row))))
              ≡ (not (is_keep (composed given (Some c) (Overlay cells) (change_at given (Some c) ops k))) && not (holds_back given c (composed given (Some c) (Overlay cells) (change_at given (Some c) ops k)) (Some row)))
          held false e = named (Upsert key cells) (Some row) (not_held_after cells row (change_at given (Some c) ops k) e)
          held true e =
              more (Some row) ∙ sym (held_after cells row (change_at given (Some c) ops k) e)
              ∙ sym (ap (λ b. not b && not (holds_back given c (composed given (Some c) (Overlay cells) (change_at given (Some c) ops k)) (Some row))) (keep-line given (Some c) (Upsert key cells) (change_at given (Some c) ops k)))

may_stand : (s : Layout) (m : Rows) (k : List Value) → AreRows s m → (row : List Value) → get m k ≡ Some row → (length row ≡ length s.columns) × (key_of s row ≡ k)
may_stand s m k are row is = (length-fits_all s.columns row (are.fit k row is), are.keys k row is)

not_not : (b : Truth) → not (not b) ≡ b
not_not true = refl
not_not false = refl

named_test : (given : List ℕ) (c : ℕ) (ops : List Op) (k : List Value) (h : Truth) → (not (is_keep (change_at given (Some c) ops k)) && h) ≡ (is_among (touches ops) k && h)
named_test given c ops k h = ap (λ b. not b && h) (keep-named given (Some c) ops k) ∙ ap (λ b. b && h) (not_not (is_among (touches ops) k))

-- a key that no line names keeps its row
unnamed_result : (s : Layout) (given : List ℕ) (when : Option ℕ) (ops : List Op) (k : List Value) (old : Option (List Value)) → is_among (touches ops) k ≡ false → result_when s given when ops k old ≡ old
unnamed_result s given when [] k old h = refl
unnamed_result s given when (op ∷ ops) k old h = go (eq_by_cmp key_cmp k (key_named op)) h (unnamed_result s given when ops k)
  where
    go : (b : Truth) → (b || is_among (touches ops) k) ≡ false → ((old : Option (List Value)) → is_among (touches ops) k ≡ false → result_when s given when ops k old ≡ old)
        → result_when s given when ops k (cond b (row_when s given when op old) old) ≡ old
    go true h more = cc
    go false h more = more old h

pub result_is_candidate : ResultIsCandidate
result_is_candidate s given c ops m k are rows = go (is_among (touches ops) k) refl
  where
    go : (b : Truth) → is_among (touches ops) k ≡ b
        → result_when s given (Some c) ops k (get m k)
        ≡ cond (is_among (touches ops) k && not (holds_back given c (change_at given (Some c) ops k) (get m k))) (candidate k (change_at given (Some c) ops k)) (get m k)
    go false e =
        unnamed_result s given (Some c) ops k (get m k) e
        ∙ ap (λ b. cond (b && not (holds_back given c (change_at given (Some c) ops k) (get m k))) (candidate k (change_at given (Some c) ops k)) (get m k)) (sym e)
    go true e =
        let fit = named_fits s given ops k are.lines e in
        sym (fold_is_lines s given (Some c) ops k (get m k) are.rises (lines-fit s given ops are.lines) (judged s given c are.rises are.whole are.column k (get m k) fit (may_stand s m k rows)))
        ∙ change_is s given c are.rises are.whole are.column k (change_at given (Some c) ops k) (get m k) fit (may_stand s m k rows) (changes-exact s given (Some c) ops k are.lines)
        ∙ ap (λ b. cond b (candidate k (change_at given (Some c) ops k)) (get m k)) (named_test given c ops k (not (holds_back given c (change_at given (Some c) ops k) (get m k))))

pub effect_is_not_held : EffectIsNotHeld
effect_is_not_held s given c ops m k are rows =
    effects s given c are.rises are.whole are.column ops k (get m k) ∙ named_test given c ops k (not (holds_back given c (change_at given (Some c) ops k) (get m k)))

pub candidates_make : CandidatesMake
candidates_make s given c ops m now effective rows made old dead index next are stood cands gone places =
    record { others = others; new_rows = record { results = results; named = named }; old_rows = gone; places = places }
  where
    tells : (k : List Value) → is_among effective k ≡ (is_among (touches ops) k && not (holds_back given c (change_at given (Some c) ops k) (get m k)))
    tells k = cands.effects k ∙ effect_is_not_held s given c ops m k are stood

    gives : (k : List Value) → get now k ≡ cond (is_among effective k) (candidate k (change_at given (Some c) ops k)) (get m k)
    gives k = cands.after k ∙ result_is_candidate s given c ops m k are stood ∙ ap (λ b. cond b (candidate k (change_at given (Some c) ops k)) (get m k)) (sym (tells k))

    others : (k : List Value) → is_among effective k ≡ false → get now k ≡ get m k
    others k e = gives k ∙ ap (λ b. cond b (candidate k (change_at given (Some c) ops k)) (get m k)) e

    parts : (a b : Truth) → (a && not b) ≡ true → (a ≡ true) × (b ≡ false)
    parts true true h = cc
    parts true false h = (refl, refl)
    parts false b h = cc

    from_parts : (a b : Truth) → a ≡ true → b ≡ false → (a && not b) ≡ true
    from_parts true true e f = cc
    from_parts true false e f = refl
    from_parts false b e f = cc

    stays : (p : Place) (row : List Value) → live rows made p ≡ Some row → stands_in dead p ≡ false → live rows (marked dead made) p ≡ Some row
    stays p row is e = live-marked rows dead made p ∙ ap (λ b. cond b None (live rows made p)) e ∙ is

    not_dead : (p : Place) (row : List Value) → live rows (marked dead made) p ≡ Some row → stands_in dead p ≡ false
    not_dead p row is = go (stands_in dead p) refl
      where
        none_some : (o : Option (List Value)) → o ≡ None → o ≡ Some row → ⊥
        none_some o e f = cc (sym e ∙ f)

        go : (b : Truth) → stands_in dead p ≡ b → b ≡ false
        go false e = refl
        go true e = absurd (none_some (live rows (marked dead made) p) (live-marked rows dead made p ∙ ap (λ b. cond b None (live rows made p)) e) is)

    results : (k row : List Value) → is_among effective k ≡ true → (get now k ≡ Some row) ↔ HasRow s (live rows (marked dead made)) k row
    results k row e =
        let part = parts (is_among (touches ops) k) (holds_back given c (change_at given (Some c) ops k) (get m k)) (sym (tells k) ∙ e) in
        let is_candidate : get now k ≡ candidate k (change_at given (Some c) ops k) = gives k ∙ ap (λ b. cond b (candidate k (change_at given (Some c) ops k)) (get m k)) e in (
          λ is. let h = (cands.rows k row part.0).0 (sym is_candidate ∙ is) in (h.0, stays h.0 row h.1 (cands.held h.0 k (row, h.1, h.2) ∙ part.1), h.2),
          λ h. is_candidate ∙ (cands.rows k row part.0).1 (h.0, live-before rows dead made h.0 row h.1, h.2),
        )

    named : (p : Place) (k : List Value) → HasKey s (live rows (marked dead made)) p k → is_among effective k ≡ true
    named p k h =
        let was : HasKey s (live rows made) p k = (h.0, live-before rows dead made p h.0 h.1, h.2) in
        tells k ∙ from_parts (is_among (touches ops) k) (holds_back given c (change_at given (Some c) ops k) (get m k)) (cands.named p k was) (sym (cands.held p k was) ∙ not_dead p h.0 h.1)
