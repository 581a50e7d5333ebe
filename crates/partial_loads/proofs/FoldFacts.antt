-- The lines of a key come to one change.
use Rattle.std.proofs.Common.{◌≡◌, ◌≢◌, refl, ap, sym, ◌∙◌, ℕ, ◌+◌, ◌<◌, ◌≤◌, zero, suc, List, [], ◌∷◌, length, arith, Option, Some, None, slice_set, slice_get, unwrap_or, Bool as Truth, true, false, cond, ◌&&◌, ◌||◌, ◌==◌, nat_le, nat_lt, length-set}
use Rattle.std.specs.List.{list_any, list_all, AllByRecursion}
use Rattle.std.specs.Ordering.{eq_by_cmp, is_lt, is_gt, ordering_reverse}
use Rattle.std.specs.declared.cmp.Ordering.{Ordering}
use Rattle.std.specs.declared.cmp.Ordering.TheVariants.{Less, Equal, Greater}
use Rattle.std.proofs.lemmas.Cmp.{upto}
use Rattle.std.proofs.lemmas.Bool.{eqb-false}
use Rattle.std.proofs.lemmas.Map.Views.{tells_apart}
use Rattle.std.specs.FinMap.{get}
use Rattle.pk_values.specs.Order.{key_cmp, value_cmp}
use Rattle.pk_values.specs.OrderFacts.{value_total, key_exact}
use Rattle.pk_values.specs.Schemas.{Layout, fits_key}
use Rattle.pk_values.specs.declared.cells.Value.{Value}
use Rattle.pk_values.specs.declared.cells.Value.TheVariants.{Null}
use Rattle.pk_model.specs.declared.calls.Op.{Op}
use Rattle.pk_model.specs.declared.calls.Op.TheVariants.{Upsert, Delete}
use Rattle.pk_model.specs.Laws.{row_after, result_for}
use Rattle.pk_model.specs.Lawful.{rise_within, fits_line, fits_given, fits_at}
use Rattle.pk_model.specs.Tables.{key_named, new_row, with_cells}
use Rattle.pk_model.proofs.CellLaws.{first_true, second_true, neither, other-cells}
use Rattle.pk_model.proofs.LoadLaws.{one_result_per_key}
use Rattle.partial_loads.specs.declared.changes.KeyChange.{KeyChange}
use Rattle.partial_loads.specs.declared.changes.KeyChange.TheVariants.{Keep, Remove, Renew, Overlay}
use Rattle.partial_loads.specs.Folds.{carried, cell_at, overlaid, apply, stronger, composed, change_of, change_at, row_when, result_when, IsFull, CanJudge, CanJudgeIf, ComposedActs, FoldIsLines, NoConditionIsLines, LoadIsChanges, DeleteRenews, LastCells, OldRowUnasked}
use borrow.Author.Tests.{leb-true, ltb-true, eqb-true}

-- two writes into a row
set-again : (row : List Value) (p : ℕ) (v w : Value) → slice_set (slice_set row p v) p w ≡ slice_set row p w
set-again [] p v w = refl
set-again (x ∷ row) zero v w = refl
set-again (x ∷ row) (suc p) v w = ap (λ r. x ∷ r) (set-again row p v w)

set-apart : (row : List Value) (p q : ℕ) (v w : Value) → p ≢ q → slice_set (slice_set row p v) q w ≡ slice_set (slice_set row q w) p v
set-apart [] p q v w n = refl
set-apart (x ∷ row) zero zero v w n = absurd (n refl)
set-apart (x ∷ row) zero (suc q) v w n = refl
set-apart (x ∷ row) (suc p) zero v w n = refl
set-apart (x ∷ row) (suc p) (suc q) v w n = ap (λ r. x ∷ r) (set-apart row p q v w (λ e. n (ap suc e)))

set-here : (row : List Value) (p : ℕ) (v : Value) → p < length row → slice_get (slice_set row p v) p ≡ Some v
set-here [] p v l = absurd (omega arith)
set-here (x ∷ row) zero v l = refl
set-here (x ∷ row) (suc p) v l = let k : p < length row = omega arith in set-here row p v k

set-past : (given : List ℕ) (cells row : List Value) (p : ℕ) (v : Value) → list_any (λ q. q == p) given ≡ false → slice_set (with_cells given cells row) p v ≡ with_cells given cells (slice_set row p v)
set-past [] cells row p v h = refl
set-past (q ∷ given) [] row p v h = refl
set-past (q ∷ given) (w ∷ cells) row p v h =
    let n = neither (q == p) (list_any (λ r. r == p) given) h in
    set-past given cells (slice_set row q w) p v n.1 ∙ ap (with_cells given cells) (set-apart row q p w v (eqb-false q p n.0))

-- places that rise from above c on tell c nowhere
not-later : (a b c : ℕ) (given : List ℕ) → c < a → rise_within a b given ≡ true → list_any (λ place. place == c) given ≡ false
not-later a b c [] l h = refl
not-later a b c (p ∷ given) l h =
    let rest = rise_within (p + 1) b given in
    let within : (nat_le a p && nat_lt p b) ≡ true = first_true (nat_le a p && nat_lt p b) rest h in
    let low : a ≤ p = leb-true a p (first_true (nat_le a p) (nat_lt p b) within) in
    let past : c < p + 1 = omega arith in
    ap (λ t. t || list_any (λ place. place == c) given) (apart (p == c) refl (omega arith)) ∙ not-later (p + 1) b c given past (second_true (nat_le a p && nat_lt p b) rest h)
  where
    apart : (t : Truth) → (p == c) ≡ t → c < p → (p == c) ≡ false
    apart false e l = e
    apart true e l = let same : p ≡ c = eqb-true p c e in absurd (omega arith)

-- what rising places say of the first and the others
rest-rises : (a b p : ℕ) (given : List ℕ) → rise_within a b (p ∷ given) ≡ true → rise_within (p + 1) b given ≡ true
rest-rises a b p given h = second_true (nat_le a p && nat_lt p b) (rise_within (p + 1) b given) h

first-within : (a b p : ℕ) (given : List ℕ) → rise_within a b (p ∷ given) ≡ true → p < b
first-within a b p given h = ltb-true p b (second_true (nat_le a p) (nat_lt p b) (first_true (nat_le a p && nat_lt p b) (rise_within (p + 1) b given) h))

first-alone : (a b p : ℕ) (given : List ℕ) → rise_within a b (p ∷ given) ≡ true → list_any (λ place. place == p) given ≡ false
first-alone a b p given h = not-later (p + 1) b p given (omega arith) (rest-rises a b p given h)

-- the cells of a line cover those of an earlier one
pub cells-again : (a b : ℕ) (given : List ℕ) (before cells row : List Value) → rise_within a b given ≡ true → length given ≤ length cells
    → with_cells given cells (with_cells given before row) ≡ with_cells given cells row
cells-again a b [] before cells row h l = refl
cells-again a b (p ∷ given) [] cells row h l = refl
cells-again a b (p ∷ given) (v ∷ before) [] row h l = absurd (omega arith)
cells-again a b (p ∷ given) (v ∷ before) (w ∷ cells) row h l =
    ap (with_cells given cells) (set-past given before (slice_set row p v) p w (first-alone a b p given h) ∙ ap (with_cells given before) (set-again row p v w))
    ∙ cells-again (p + 1) b given before cells (slice_set row p w) (rest-rises a b p given h) (omega arith)

-- a row with the cells of a line has its cell in each column that it carries
carried-at : (a b c : ℕ) (given : List ℕ) (cells row : List Value) → rise_within a b given ≡ true → list_any (λ p. p == c) given ≡ true → length given ≤ length cells → b ≤ length row
    → cell_at (with_cells given cells row) c ≡ carried given cells c
carried-at a b c [] cells row h m l e = cc
carried-at a b c (p ∷ given) [] row h m l e = absurd (omega arith)
carried-at a b c (p ∷ given) (v ∷ cells) row h m l e =
    go (λ more. carried-at (p + 1) b c given cells (slice_set row p v) (rest-rises a b p given h) more (omega arith) (omega (arith, length-set row p v))) (p == c) refl m
  where
    go : (list_any (λ q. q == c) given ≡ true → cell_at (with_cells given cells (slice_set row p v)) c ≡ carried given cells c)
        → (t : Truth) → (p == c) ≡ t → (t || list_any (λ q. q == c) given) ≡ true → cell_at (with_cells given cells (slice_set row p v)) c ≡ cond t v (carried given cells c)
    go later true is m =
        let same : p ≡ c = eqb-true p c is in
        let alone : list_any (λ q. q == c) given ≡ false = ap (λ d. list_any (λ q. q == d) given) (sym same) ∙ first-alone a b p given h in
        let within : p < b = first-within a b p given h in
        let here : p < length row = omega arith in
        ap (λ o. unwrap_or o Null) (other-cells given cells (slice_set row p v) c alone ∙ ap (λ d. slice_get (slice_set row p v) d) (sym same) ∙ set-here row p v here)
    go later false is m = later m

length-cells : (given : List ℕ) (cells row : List Value) → length (with_cells given cells row) ≡ length row
length-cells [] cells row = refl
length-cells (p ∷ given) [] row = refl
length-cells (p ∷ given) (v ∷ cells) row = length-cells given cells (slice_set row p v) ∙ length-set row p v

-- the order of values
lt_less : (o : Ordering) → is_lt o ≡ true → o ≡ Less
lt_less Less h = refl
lt_less Equal h = cc
lt_less Greater h = cc

gt-reverse : (o : Ordering) → is_gt (ordering_reverse o) ≡ is_lt o
gt-reverse Less = refl
gt-reverse Equal = refl
gt-reverse Greater = refl

pub below-below : (a b c : Value) → is_lt (value_cmp a b) ≡ true → is_lt (value_cmp b c) ≡ true → is_lt (value_cmp a c) ≡ true
below-below a b c h g = ap is_lt (value_total.trans a b c (lt_less (value_cmp a b) h) (lt_less (value_cmp b c) g))

back : (a b : Value) → is_gt (value_cmp a b) ≡ is_lt (value_cmp b a)
back a b = ap is_gt (value_total.antisymm a b) ∙ gt-reverse (value_cmp b a)

pub not_below-not_below : (a b c : Value) → is_lt (value_cmp a b) ≡ false → is_lt (value_cmp b c) ≡ false → is_lt (value_cmp a c) ≡ false
not_below-not_below a b c h g = sym (back c a) ∙ upto value_total c b a (back c b ∙ g) (back b a ∙ h)

module _ (s : Layout) (given : List ℕ) (rises : rise_within s.keys (length s.columns) given ≡ true) where
  -- cells over those of an earlier line
  over-cells : (when : Option ℕ) (key before cells new row : List Value) (old : Option (List Value)) → length given ≤ length before → length given ≤ length cells
      → CanJudgeIf s given when key old → ((c : ℕ) → when ≡ Some c → length s.columns ≤ length row)
      → overlaid given when cells new (Some (with_cells given before row)) ≡ with_cells given (stronger given when before cells) row
  over-cells None key before cells new row old l k j w = cells-again s.keys (length s.columns) given before cells row rises k
  over-cells (Some c) key before cells new row old l k j w =
      ap (λ v. cond (is_lt (value_cmp (carried given cells c) v)) (with_cells given before row) (with_cells given cells (with_cells given before row)))
      (carried-at s.keys (length s.columns) c given before row rises j.carries l (w c refl))
      ∙ chosen (is_lt (value_cmp (carried given cells c) (carried given before c)))
    where
      chosen : (t : Truth) → cond t (with_cells given before row) (with_cells given cells (with_cells given before row)) ≡ with_cells given (cond t before cells) row
      chosen true = refl
      chosen false = cells-again s.keys (length s.columns) given before cells row rises k

  new_whole : (when : Option ℕ) (key : List Value) (old : Option (List Value)) → CanJudgeIf s given when key old → (c : ℕ) → when ≡ Some c → length s.columns ≤ length (new_row s key)
  new_whole None key old j c e = cc
  new_whole (Some d) key old j c e = j.new

  old_whole : (when : Option ℕ) (key row : List Value) → CanJudgeIf s given when key (Some row) → (c : ℕ) → when ≡ Some c → length s.columns ≤ length row
  old_whole None key row j c e = cc
  old_whole (Some d) key row j c e = j.whole row refl

  -- the stronger cells over a row, and the cells one after the other
  both-over : (when : Option ℕ) (key before cells new row : List Value) → length given ≤ length before → length given ≤ length cells → CanJudgeIf s given when key (Some row)
      → overlaid given when (stronger given when before cells) new (Some row) ≡ overlaid given when cells new (Some (overlaid given when before new (Some row)))
  both-over None key before cells new row l k j = sym (cells-again s.keys (length s.columns) given before cells row rises k)
  both-over (Some c) key before cells new row l k j = go (below b x) (below d b) refl refl
    where
      below : Value → Value → Truth
      below u v = is_lt (value_cmp u v)

      b : Value
      b = carried given before c

      d : Value
      d = carried given cells c

      x : Value
      x = cell_at row c

      goal : Truth → Truth → Type 0
      goal p q = overlaid given (Some c) (cond q before cells) new (Some row) ≡ overlaid given (Some c) cells new (Some (cond p row (with_cells given before row)))

      after_before : overlaid given (Some c) cells new (Some (with_cells given before row)) ≡ with_cells given (cond (below d b) before cells) row
      after_before = over-cells (Some c) key before cells new row (Some row) l k j (old_whole (Some c) key row j)

      held : (v : List Value) (p : Truth) → below (carried given v c) x ≡ p → overlaid given (Some c) v new (Some row) ≡ cond p row (with_cells given v row)
      held v p e = ap (λ t. cond t row (with_cells given v row)) e

      go : (p q : Truth) → below b x ≡ p → below d b ≡ q → goal p q
      go true true e f = held before true e ∙ sym (held cells true (below-below d b x f e))
      go true false e f = refl
      go false true e f = held before false e ∙ sym (after_before ∙ ap (λ t. with_cells given (cond t before cells) row) f)
      go false false e f = held cells false (not_below-not_below d b x f e) ∙ sym (after_before ∙ ap (λ t. with_cells given (cond t before cells) row) f)

  pub acts : (when : Option ℕ) (key : List Value) (first second : KeyChange) (old : Option (List Value)) → IsFull given first → IsFull given second → CanJudgeIf s given when key old
      → apply s given when key (composed given when first second) old ≡ apply s given when key second (apply s given when key first old)
  acts when key first Keep old l k j = refl
  acts when key first Remove old l k j = refl
  acts when key first (Renew cells) old l k j = refl
  acts when key Keep (Overlay cells) old l k j = refl
  acts when key Remove (Overlay cells) old l k j = refl
  acts when key (Renew before) (Overlay cells) old l k j = ap Some (sym (over-cells when key before cells (new_row s key) (new_row s key) old l k j (new_whole when key old j)))
  acts when key (Overlay before) (Overlay cells) None l k j = ap Some (sym (over-cells when key before cells (new_row s key) (new_row s key) None l k j (new_whole when key None j)))
  acts when key (Overlay before) (Overlay cells) (Some row) l k j = ap Some (both-over when key before cells (new_row s key) row l k j)

  stronger-full : (when : Option ℕ) (before cells : List Value) → length given ≤ length before → length given ≤ length cells → length given ≤ length (stronger given when before cells)
  stronger-full None before cells l k = k
  stronger-full (Some c) before cells l k = go (is_lt (value_cmp (carried given cells c) (carried given before c)))
    where
      go : (t : Truth) → length given ≤ length (cond t before cells)
      go true = l
      go false = k

  composed-full : (when : Option ℕ) (first second : KeyChange) → IsFull given first → IsFull given second → IsFull given (composed given when first second)
  composed-full when first Keep l k = l
  composed-full when first Remove l k = tt
  composed-full when first (Renew cells) l k = k
  composed-full when Keep (Overlay cells) l k = k
  composed-full when Remove (Overlay cells) l k = k
  composed-full when (Renew before) (Overlay cells) l k = stronger-full when before cells l k
  composed-full when (Overlay before) (Overlay cells) l k = stronger-full when before cells l k

  overlaid-whole : (when : Option ℕ) (cells new row : List Value) → length s.columns ≤ length row → length s.columns ≤ length (overlaid given when cells new (Some row))
  overlaid-whole None cells new row l = omega (arith, length-cells given cells row)
  overlaid-whole (Some c) cells new row l = go (is_lt (value_cmp (carried given cells c) (cell_at row c)))
    where
      go : (t : Truth) → length s.columns ≤ length (cond t row (with_cells given cells row))
      go true = l
      go false = omega (arith, length-cells given cells row)

  some_same : (x y : List Value) → Some x ≡ Some y → x ≡ y
  some_same x y e = cc

  -- a change leaves a whole row
  apply-whole : (when : Option ℕ) (key : List Value) (c : ℕ) (change : KeyChange) (old : Option (List Value)) → CanJudge s given key old c → CanJudge s given key (apply s given when key change old) c
  apply-whole when key c Keep old j = j
  apply-whole when key c Remove old j = record { carries = j.carries; new = j.new; whole = λ row e. cc }
  apply-whole when key c (Renew cells) old j = record {
    carries = j.carries;
    new = j.new;
    whole = λ row e.
        let is : length row ≡ length (new_row s key) = ap length (sym (some_same (with_cells given cells (new_row s key)) row e)) ∙ length-cells given cells (new_row s key) in
        let long = j.new in
        omega arith;
  }
  apply-whole when key c (Overlay cells) None j = record {
    carries = j.carries;
    new = j.new;
    whole = λ row e.
        let is : length row ≡ length (new_row s key) = ap length (sym (some_same (with_cells given cells (new_row s key)) row e)) ∙ length-cells given cells (new_row s key) in
        let long = j.new in
        omega arith;
  }
  apply-whole when key c (Overlay cells) (Some row) j = record {
    carries = j.carries;
    new = j.new;
    whole = λ r e.
        let is : length r ≡ length (overlaid given when cells (new_row s key) (Some row)) = ap length (sym (some_same (overlaid given when cells (new_row s key) (Some row)) r e)) in
        let long = overlaid-whole when cells (new_row s key) row (j.whole row refl) in
        omega arith;
  }

  still : (when : Option ℕ) (key : List Value) (change : KeyChange) (old : Option (List Value)) → CanJudgeIf s given when key old → CanJudgeIf s given when key (apply s given when key change old)
  still None key change old j = tt
  still (Some c) key change old j = apply-whole (Some c) key c change old j

  -- the change of a line of this key, and none of another
  line-acts : (when : Option ℕ) (op : Op) (key : List Value) (old : Option (List Value)) (t : Truth) → eq_by_cmp key_cmp key (key_named op) ≡ t
      → apply s given when key (cond t (change_of op) Keep) old ≡ cond t (row_when s given when op old) old
  line-acts when op key old false e = refl
  line-acts when (Delete k) key old true e = refl
  line-acts when (Upsert k cells) key old true e = ap (λ q. Some (overlaid given when cells (new_row s q) old)) (tells_apart key_exact key k e)

  line-full : (op : Op) (t : Truth) → IsFull given (change_of op) → IsFull given (cond t (change_of op) Keep)
  line-full op true h = h
  line-full op false h = tt

  pub changes-full : (when : Option ℕ) (ops : List Op) (key : List Value) → AllByRecursion (λ op. IsFull given (change_of op)) ops → IsFull given (change_at given when ops key)
  changes-full when [] key h = tt
  changes-full when (op ∷ ops) key h =
      composed-full when (cond (eq_by_cmp key_cmp key (key_named op)) (change_of op) Keep) (change_at given when ops key) (line-full op (eq_by_cmp key_cmp key (key_named op)) h.0) (changes-full when ops key h.1)

  pub lines-act : (when : Option ℕ) (ops : List Op) (key : List Value) (old : Option (List Value)) → AllByRecursion (λ op. IsFull given (change_of op)) ops → CanJudgeIf s given when key old
      → apply s given when key (change_at given when ops key) old ≡ result_when s given when ops key old
  lines-act when [] key old h j = refl
  lines-act when (op ∷ ops) key old h j =
      let first : KeyChange = cond (eq_by_cmp key_cmp key (key_named op)) (change_of op) Keep in
      acts when key first (change_at given when ops key) old (line-full op (eq_by_cmp key_cmp key (key_named op)) h.0) (changes-full when ops key h.1) j
      ∙ lines-act when ops key (apply s given when key first old) h.1 (still when key first old j)
      ∙ ap (result_when s given when ops key) (line-acts when op key old (eq_by_cmp key_cmp key (key_named op)) refl)

pub composed_acts : ComposedActs
composed_acts s given when key first second old rises l k j = acts s given rises when key first second old l k j

pub fold_is_lines : FoldIsLines
fold_is_lines s given when ops key old rises h j = lines-act s given rises when ops key old h j

same-line : (s : Layout) (given : List ℕ) (op : Op) (old : Option (List Value)) → row_when s given None op old ≡ row_after s given op old
same-line s given (Delete key) old = refl
same-line s given (Upsert key cells) None = refl
same-line s given (Upsert key cells) (Some row) = refl

pub no_condition_is_lines : NoConditionIsLines
no_condition_is_lines s given [] key old = refl
no_condition_is_lines s given (op ∷ ops) key old =
    no_condition_is_lines s given ops key (cond (eq_by_cmp key_cmp key (key_named op)) (row_when s given None op old) old)
    ∙ ap (λ r. result_for s given ops key (cond (eq_by_cmp key_cmp key (key_named op)) r old)) (same-line s given op old)

-- a line that fits has a cell for each carried column
fitting-full : (s : Layout) (given : List ℕ) (cells : List Value) → fits_given s given cells ≡ true → length given ≤ length cells
fitting-full s [] [] h = omega arith
fitting-full s [] (v ∷ cells) h = cc
fitting-full s (p ∷ given) [] h = cc
fitting-full s (p ∷ given) (v ∷ cells) h =
    let rest = fitting-full s given cells (second_true (fits_at (slice_get s.columns p) v) (fits_given s given cells) h) in
    omega arith

line-fits : (s : Layout) (given : List ℕ) (op : Op) → fits_line s given op ≡ true → IsFull given (change_of op)
line-fits s given (Delete key) h = tt
line-fits s given (Upsert key cells) h = fitting-full s given cells (second_true (fits_key s key) (fits_given s given cells) h)

pub lines-fit : (s : Layout) (given : List ℕ) (ops : List Op) → list_all (fits_line s given) ops ≡ true → AllByRecursion (λ op. IsFull given (change_of op)) ops
lines-fit s given [] h = tt
lines-fit s given (op ∷ ops) h =
    (line-fits s given op (first_true (fits_line s given op) (list_all (fits_line s given) ops) h), lines-fit s given ops (second_true (fits_line s given op) (list_all (fits_line s given) ops) h))

pub load_is_changes : LoadIsChanges
load_is_changes s load m key lawful =
    one_result_per_key s load m key
    ∙ sym (no_condition_is_lines s load.given load.ops key (get m key))
    ∙ sym (fold_is_lines s load.given None load.ops key (get m key) lawful.given (lines-fit s load.given load.ops lawful.lines) tt)

pub delete_renews : DeleteRenews
delete_renews s given when key cells first old = refl

pub last_cells : LastCells
last_cells given before cells = refl

pub old_row_unasked : OldRowUnasked
old_row_unasked s given when key Keep a b h = cc
old_row_unasked s given when key Remove a b h = refl
old_row_unasked s given when key (Renew cells) a b h = refl
old_row_unasked s given when key (Overlay cells) a b h = cc
