-- The load that a file stands for is lawful.
use Rattle.std.proofs.Common.{◌≡◌, refl, ap, sym, subst, ◌∙◌, ℕ, suc, zero, ◌+◌, ◌-◌, ◌<◌, ◌≤◌, List, [], ◌∷◌, ◌++◌, length, take, drop, Option, Some, None, Result, Ok, Err, Bool, true, false, not, ◌&&◌, ◌||◌, ◌==◌, if◌then◌else◌, nat_lt, nat_le, arith, length-drop, length-append}
use Rattle.std.specs.Prelude.{All, IfOk, slice_get}
use Rattle.std.specs.List.{list_any}
use Rattle.std.proofs.lemmas.List.Elements.{All-append, All-nil}
use Rattle.std.proofs.lemmas.List.Sums.{list_all-from_AllPass}
use native.Mathlib.Numerals.{unary_clauses}
use Rattle.key_code.specs.KeyCode.{key_code}
use Rattle.pk_values.specs.Fits.{fits}
use Rattle.pk_values.specs.Schemas.{Layout, fits_key}
use Rattle.pk_values.specs.declared.cells.Column.{Column}
use Rattle.pk_values.specs.declared.cells.Value.{Value}
use Rattle.pk_model.specs.declared.calls.Op.{Op}
use Rattle.pk_model.specs.declared.calls.Load.{Load}
use Rattle.pk_model.specs.Tables.{key_named}
use Rattle.pk_model.specs.Lawful.{HasShortKey, IsLawful, carries_needed, fits_given, fits_line, is_needed, rise_within}
use Rattle.load_csv.specs.declared.loads.LoadFault.{LoadFault}
use Rattle.load_csv.specs.declared.loads.LoadFault.TheVariants as fault
use Rattle.load_csv.specs.declared.headers.Field.{Field}
use Rattle.load_csv.specs.declared.headers.Field.TheVariants as field
use Rattle.load_csv.specs.Results.{◌and_then◌}
use Rattle.load_csv.specs.Headers.{is_same, missing_from, unfilled_from, wanted}
use Rattle.load_csv.specs.Lines.{cells_of, if_short, is_delete, line_of, line_of_cells, line_told, line_with, marks, op_of, other_marks, pick}
use Rattle.load_csv.specs.Loads.{given_in, lines_after, most_rows, others, places, row_of}
use Rattle.load_csv.proofs.LoadFacts.{gives-all}
use Rattle.load_csv.proofs.FitFacts.{both, cells-hold, cells-width, equal_itself, get-drop, holds, key-fits, ltb-true, or_true}

-- ---- the columns outside the key

leb-holds : (a b : ℕ) → a ≤ b → nat_le a b ≡ true
leb-holds a b h = grind arith

abbrev given_from : List Field → ℕ → List Column → List ℕ
given_from fields i cs = pick (marks fields i cs) (places i cs)

rise-given : (fields : List Field) (a b i : ℕ) (cs : List Column) → a ≤ i → (0 < length cs → i + length cs ≤ b) → rise_within a b (given_from fields i cs) ≡ true
rise-given fields a b i [] l h = refl
rise-given fields a b i (c ∷ cs) l h = by (list_any (is_same (field.Column i)) fields) (rise-given fields (i + 1) b (i + 1) cs) (rise-given fields a b (i + 1) cs)
  where
    by : (t : Bool) → (i + 1 ≤ i + 1 → (0 < length cs → i + 1 + length cs ≤ b) → rise_within (i + 1) b (given_from fields (i + 1) cs) ≡ true)
        → (a ≤ i + 1 → (0 < length cs → i + 1 + length cs ≤ b) → rise_within a b (given_from fields (i + 1) cs) ≡ true)
        → rise_within a b (if t then i ∷ given_from fields (i + 1) cs else given_from fields (i + 1) cs) ≡ true
    by true after later =
        let end : i + suc (length cs) ≤ b = h (omega arith) in
        let within : i < b = omega arith in
        both (nat_le a i && nat_lt i b) _ (both (nat_le a i) (nat_lt i b) (leb-holds a i l) (ltb-true i b within)) (after (omega arith) (λ _. omega arith))
    by false after later = let end : i + suc (length cs) ≤ b = h (omega arith) in later (omega arith) (λ _. omega arith)

any-given : (fields : List Field) (i : ℕ) (cs : List Column) (k : ℕ) → k < length cs → list_any (is_same (field.Column (i + k))) fields ≡ true
    → list_any (λ place. place == i + k) (given_from fields i cs) ≡ true
any-given fields i [] k l g = absurd (omega arith)
any-given fields i (c ∷ cs) zero l g = by (list_any (is_same (field.Column i)) fields) here
  where
    here : list_any (is_same (field.Column i)) fields ≡ true
    here = let same : i + zero ≡ i = omega arith in subst (λ p. list_any (is_same (field.Column p)) fields ≡ true) same g

    by : (t : Bool) → t ≡ true → list_any (λ place. place == i + zero) (if t then i ∷ given_from fields (i + 1) cs else given_from fields (i + 1) cs) ≡ true
    by true e = let first : (i == i + zero) ≡ true = simp unary_clauses (equal_itself i) in rw first refl
    by false e = cc e
any-given fields i (c ∷ cs) (suc k) l g =
    let same : i + 1 + k ≡ i + suc k = omega arith in
    let there : list_any (λ place. place == i + suc k) (given_from fields (i + 1) cs) ≡ true =
    rw same at (any-given fields (i + 1) cs k (omega arith) (subst (λ p. list_any (is_same (field.Column p)) fields ≡ true) (sym same) g)) in
    by (list_any (is_same (field.Column i)) fields) there
  where
    by : (t : Bool) → list_any (λ place. place == i + suc k) (given_from fields (i + 1) cs) ≡ true
        → list_any (λ place. place == i + suc k) (if t then i ∷ given_from fields (i + 1) cs else given_from fields (i + 1) cs) ≡ true
    by true there = rw there (or_true (i == i + suc k))
    by false there = there

carries-given : (fields : List Field) (given : List ℕ) (i : ℕ) (cs : List Column) → unfilled_from fields i cs ≡ None
    → ((k : ℕ) → k < length cs → list_any (is_same (field.Column (i + k))) fields ≡ true → list_any (λ place. place == i + k) given ≡ true) → carries_needed given i cs ≡ true
carries-given fields given i [] u h = refl
carries-given fields given i (c ∷ cs) u h = by (list_any (is_same (field.Column i)) fields) (is_needed c) here u (λ v. carries-given fields given (i + 1) cs v later)
  where
    none : i + zero ≡ i
    none = omega arith

    here : list_any (is_same (field.Column i)) fields ≡ true → list_any (λ place. place == i) given ≡ true
    here g = subst (λ p. list_any (λ place. place == p) given ≡ true) none (h zero (omega arith) (subst (λ p. list_any (is_same (field.Column p)) fields ≡ true) (sym none) g))

    later : (k : ℕ) → k < length cs → list_any (is_same (field.Column (i + 1 + k))) fields ≡ true → list_any (λ place. place == i + 1 + k) given ≡ true
    later k l g =
        let same : i + suc k ≡ i + 1 + k = omega arith in
        rw same at (h (suc k) (omega arith) (subst (λ p. list_any (is_same (field.Column p)) fields ≡ true) (sym same) g))

    by : (t n : Bool) → (t ≡ true → list_any (λ place. place == i) given ≡ true) → (if t || not n then unfilled_from fields (i + 1) cs else Some i) ≡ None
        → (unfilled_from fields (i + 1) cs ≡ None → carries_needed given (i + 1) cs ≡ true)
        → ((not n || list_any (λ place. place == i) given) && carries_needed given (i + 1) cs) ≡ true
    by true n here u rest = let is = here refl in both (not n || list_any (λ place. place == i) given) _ (rw is (or_true (not n))) (rest u)
    by false true here u rest = cc u
    by false false here u rest = rest u

unfilled-drop : (fields : List Field) (n i : ℕ) (cs : List Column) → unfilled_from fields i cs ≡ None → unfilled_from fields (i + n) (drop n cs) ≡ None
unfilled-drop fields zero i cs h = let same : i + 0 ≡ i = omega arith in subst (λ k. unfilled_from fields k cs ≡ None) (sym same) h
unfilled-drop fields (suc n) i [] h = refl
unfilled-drop fields (suc n) i (c ∷ cs) h =
    let same : i + 1 + n ≡ i + suc n = omega arith in
    subst (λ k. unfilled_from fields k (drop n cs) ≡ None) same (unfilled-drop fields n (i + 1) cs (by (list_any (is_same (field.Column i)) fields || not (is_needed c)) h))
  where
    by : (t : Bool) → (if t then unfilled_from fields (i + 1) cs else Some i) ≡ None → unfilled_from fields (i + 1) cs ≡ None
    by true h = h
    by false h = cc h

given-fit : (s : Layout) (fields : List Field) (i : ℕ) (cs : List Column) (vs : List Value) → ((k : ℕ) (c : Column) → slice_get cs k ≡ Some c → slice_get s.columns (i + k) ≡ Some c)
    → length vs ≡ length cs → ((k : ℕ) (c : Column) → slice_get cs k ≡ Some c → list_any (is_same (field.Column (i + k))) fields ≡ true → holds c (slice_get vs k) ≡ true)
    → fits_given s (given_from fields i cs) (pick (marks fields i cs) vs) ≡ true
given-fit s fields i [] [] h l g = refl
given-fit s fields i [] (v ∷ vs) h l g = absurd (omega arith)
given-fit s fields i (c ∷ cs) [] h l g = absurd (omega arith)
given-fit s fields i (c ∷ cs) (v ∷ vs) h l g = by (list_any (is_same (field.Column i)) fields) here (given-fit s fields (i + 1) cs vs later (omega arith) held)
  where
    none : i + zero ≡ i
    none = omega arith

    there : slice_get s.columns i ≡ Some c
    there = subst (λ p. slice_get s.columns p ≡ Some c) none (h zero c refl)

    here : list_any (is_same (field.Column i)) fields ≡ true → fits c v ≡ true
    here named = g zero c refl (subst (λ p. list_any (is_same (field.Column p)) fields ≡ true) (sym none) named)

    later : (k : ℕ) (d : Column) → slice_get cs k ≡ Some d → slice_get s.columns (i + 1 + k) ≡ Some d
    later k d e =
        let same : i + suc k ≡ i + 1 + k = omega arith in
        rw same at (h (suc k) d e)

    held : (k : ℕ) (d : Column) → slice_get cs k ≡ Some d → list_any (is_same (field.Column (i + 1 + k))) fields ≡ true → holds d (slice_get vs k) ≡ true
    held k d e named =
        let same : i + suc k ≡ i + 1 + k = omega arith in
        g (suc k) d e (subst (λ p. list_any (is_same (field.Column p)) fields ≡ true) (sym same) named)

    by : (t : Bool) → (t ≡ true → fits c v ≡ true) → fits_given s (given_from fields (i + 1) cs) (pick (marks fields (i + 1) cs) vs) ≡ true
        → fits_given s (if t then i ∷ given_from fields (i + 1) cs else given_from fields (i + 1) cs) (if t then v ∷ pick (marks fields (i + 1) cs) vs else pick (marks fields (i + 1) cs) vs) ≡ true
    by true fit rest = rw there (both (fits c v) _ (fit refl) rest)
    by false fit rest = rest

-- ---- a line

-- a lawful line
record Good (s : Layout) (fields : List Field) (op : Op) : Type 0 where
  pub fitting : fits_line s (given_in s fields) op ≡ true
  pub short : HasShortKey s op

key_of_op : (delete : Bool) (key cells : List Value) → key_named (op_of delete key cells) ≡ key
key_of_op true key cells = refl
key_of_op false key cells = refl

fitting_line : (s : Layout) (given : List ℕ) (delete : Bool) (key cells : List Value) → fits_key s key ≡ true → (delete ≡ false → fits_given s given cells ≡ true) → fits_line s given (op_of delete key cells) ≡ true
fitting_line s given true key cells f g = f
fitting_line s given false key cells f g = both (fits_key s key) _ f (g refl)

others-fit : (s : Layout) (fields : List Field) (n : ℕ) (texts : List (List ℕ)) (cells : List Value)
    → length texts ≡ length fields → cells_of s fields n false texts ≡ Ok cells → fits_given s (given_in s fields) (pick (other_marks s fields) (drop s.keys cells)) ≡ true
others-fit s fields n texts cells l e =
    given-fit s fields s.keys (drop s.keys s.columns) (drop s.keys cells)
    (λ k c g. sym (get-drop s.keys s.columns k) ∙ g)
    (length-drop s.keys cells ∙ ap (λ m. m - s.keys) (cells-width s fields n false texts cells e) ∙ sym (length-drop s.keys s.columns))
    (λ k c g named. rw (get-drop s.keys cells k) (cells-hold s fields n false texts cells l e (s.keys + k) c (sym (get-drop s.keys s.columns k) ∙ g) named refl))

pub same_width : (a b : ℕ) → (a == b) ≡ true → a ≡ b
same_width a b h = grind (arith, h)

pub not_longer : (a b : ℕ) → nat_lt a b ≡ false → b ≤ a
not_longer a b h = grind (arith, h)

line-good : (s : Layout) (fields : List Field) (n : ℕ) (texts : List (List ℕ)) (op : Op) → missing_from fields 0 (take s.keys s.columns) ≡ None → line_of s fields n texts ≡ Ok op → Good s fields op
line-good s fields n texts op whole e = by_width (length texts == length fields) refl e
  where
    by_length : (delete : Bool) (cells : List Value) (t : Bool) → length texts ≡ length fields → cells_of s fields n delete texts ≡ Ok cells
        → nat_lt 128 (length (key_code s (take s.keys cells))) ≡ t → if_short n (length (key_code s (take s.keys cells))) (line_of_cells s fields delete cells) ≡ Ok op → Good s fields op
    by_length delete cells true l g q e = let long = rw q at e in cc long
    by_length delete cells false l g q e =
        let here = rw q at e in
        let is : line_of_cells s fields delete cells ≡ op = cc here in
        let key = take s.keys cells in
        let given = pick (other_marks s fields) (drop s.keys cells) in
        let named = key_of_op delete key given in
        let short : length (key_code s key) ≤ 128 = not_longer 128 (length (key_code s key)) q in
        subst (Good s fields) is (record {
          fitting = fitting_line s (given_in s fields) delete key given (key-fits s fields n delete texts cells whole l g) (λ no. others-fit s fields n texts cells l (rw no at g));
          short = rw named short;
        })

    by_cells : (delete : Bool) (o : Result (List Value) LoadFault) → length texts ≡ length fields → cells_of s fields n delete texts ≡ o → (o and_then line_with s fields n delete) ≡ Ok op → Good s fields op
    by_cells delete (Err f) l g e = cc e
    by_cells delete (Ok cells) l g e = by_length delete cells (nat_lt 128 (length (key_code s (take s.keys cells)))) l g refl e

    by_delete : (o : Option Bool) → length texts ≡ length fields → line_told s fields n o texts ≡ Ok op → Good s fields op
    by_delete None l e = cc e
    by_delete (Some delete) l e = by_cells delete (cells_of s fields n delete texts) l refl e

    by_width : (t : Bool) → (length texts == length fields) ≡ t → (if t then line_told s fields n (is_delete fields texts) texts else Err (fault.Width n)) ≡ Ok op → Good s fields op
    by_width true t e = by_delete (is_delete fields texts) (same_width (length texts) (length fields) t) e
    by_width false t e = cc e

-- ---- the lines of a file

-- lawful lines, and no more than there may be
record AreGood (s : Layout) (fields : List Field) (ops : List Op) : Type 0 where
  pub each : All (Good s fields) ops
  pub count : length ops ≤ most_rows

one-good : (s : Layout) (fields : List Field) (op : Op) → Good s fields op → All (Good s fields) (op ∷ [])
one-good s fields op g zero d l = g
one-good s fields op g (suc k) d l = absurd (omega arith)

row-good : (s : Layout) (fields : List Field) (n : ℕ) (row : List (List ℕ)) (op : Op) → missing_from fields 0 (take s.keys s.columns) ≡ None → row_of s fields n row ≡ Ok op → Good s fields op × (n ≤ most_rows)
row-good s fields n row op whole e = by_number (nat_lt most_rows n) refl e
  where
    by_number : (t : Bool) → nat_lt most_rows n ≡ t → (if t then Err fault.ManyRows else line_of s fields n row) ≡ Ok op → Good s fields op × (n ≤ most_rows)
    by_number true t e = cc e
    by_number false t e = (line-good s fields n row op whole e, not_longer most_rows n t)

lines-good : (s : Layout) (fields : List Field) (before : List Op) (rows : List (List (List ℕ))) (ops : List Op) → missing_from fields 0 (take s.keys s.columns) ≡ None
    → AreGood s fields before → lines_after s fields before rows ≡ Ok ops → AreGood s fields ops
lines-good s fields before [] ops whole g e = let q : before ≡ ops = cc e in subst (AreGood s fields) q g
lines-good s fields before (row ∷ rows) ops whole g e =
    by_row (row_of s fields (length before + 1) row) refl e (λ op more. lines-good s fields (before ++ op ∷ []) rows ops whole more)
  where
    by_row : (o : Result Op LoadFault) → row_of s fields (length before + 1) row ≡ o → (o and_then (λ op. lines_after s fields (before ++ op ∷ []) rows)) ≡ Ok ops
        → ((op : Op) → AreGood s fields (before ++ op ∷ []) → lines_after s fields (before ++ op ∷ []) rows ≡ Ok ops → AreGood s fields ops) → AreGood s fields ops
    by_row (Err f) o e later = cc e
    by_row (Ok op) o e later =
        let good = row-good s fields (length before + 1) row op whole o in
        let few = good.1 in
        later op (record {
          each = All-append (Good s fields) before (op ∷ []) g.each (one-good s fields op good.0);
          count = rw length-append (omega arith);
        }) e

-- lines under a header that names the key, and in whose other columns no row wants a cell, are a lawful load
pub lines-lawful : (s : Layout) (fields : List Field) (rows : List (List (List ℕ))) (ops : List Op) → missing_from fields 0 (take s.keys s.columns) ≡ None → unfilled_from fields 0 s.columns ≡ None
    → lines_after s fields [] rows ≡ Ok ops → IsLawful s (record { given = given_in s fields; ops = ops })
lines-lawful s fields rows ops keys filled e =
    let good = lines-good s fields [] rows ops keys (record { each = All-nil (Good s fields); count = omega arith }) e in
    let left = length-drop s.keys s.columns in
    let first : 0 + s.keys ≡ s.keys = omega arith in
    let left_filled = subst (λ k. unfilled_from fields k (drop s.keys s.columns) ≡ None) first (unfilled-drop fields s.keys 0 s.columns filled) in
    record {
      given = rise-given fields s.keys (length s.columns) s.keys (drop s.keys s.columns) (omega arith) (λ some. omega arith);
      needed = carries-given fields (given_in s fields) s.keys (drop s.keys s.columns) left_filled (any-given fields s.keys (drop s.keys s.columns));
      lines = list_all-from_AllPass (fits_line s (given_in s fields)) ops (λ k d l. (good.each k d l).fitting);
      codes = λ k d l. (good.each k d l).short;
      count = good.count;
    }

pub if-lawful : (s : Layout) (r : Result Load LoadFault) (made : Load) → IfOk r (λ load. load ≡ made) → IsLawful s made → IfOk r (λ load. IsLawful s load)
if-lawful s (Ok load) made e h = subst (IsLawful s) (sym e) h
if-lawful s (Err f) made e h = tt

-- a file of all columns gives all
pub if-whole : (s : Layout) (partial : Bool) (fields : List Field) (ops : List Op) (r : Result Load LoadFault) → IfOk r (λ load. load ≡ record { given = given_in s fields; ops = ops })
    → missing_from fields 0 (wanted s partial) ≡ None → IfOk r (λ load. partial ≡ false → load.given ≡ others s)
if-whole s partial fields ops (Err f) e h = tt
if-whole s true fields ops (Ok load) e h = λ no. cc no
if-whole s false fields ops (Ok load) e h = λ no. ap (λ (l : Load). l.given) e ∙ gives-all s fields h
