-- What the cells of a line do to a row, one cell at a time.
use Rattle.std.proofs.Common.{◌≡◌, ◌≢◌, refl, ap, sym, ◌∙◌, ℕ, ◌+◌, ◌<◌, ◌≤◌, zero, suc, List, [], ◌∷◌, ◌++◌, length, map, drop, arith, append_assoc, length-append, Some, slice_set, Bool as Truth, true, false, ◌&&◌, ◌||◌, ◌==◌, nat_le, nat_lt, length-set}
use Rattle.std.specs.List.{slice_get, list_any}
use Rattle.pk_values.specs.declared.cells.Value.{Value}
use Rattle.pk_model.specs.Lawful.{rise_within}
use Rattle.pk_model.specs.Laws.{CarriedCells, OtherCells}
use Rattle.pk_values.specs.Schemas.{Layout}
use Rattle.pk_model.specs.Lines.{are_counted, is_whole}
use Rattle.pk_model.specs.Tables.{default_cell, new_row, with_cells}
use borrow.Author.Tests.{leb-true, ltb-true, eqb-true}
use Rattle.std.proofs.lemmas.Bool.{eqb-false}
use Rattle.std.proofs.lemmas.List.{length-map}

with_cells-none : (given : List ℕ) (row : List Value) → with_cells given [] row ≡ row
with_cells-none [] row = refl
with_cells-none (c ∷ cs) row = refl

pub with_cells-none_left : (given : List ℕ) (cells row : List Value) → length cells ≡ 0 → with_cells given cells row ≡ row
with_cells-none_left given [] row e = with_cells-none given row
with_cells-none_left given (v ∷ vs) row e = absurd (omega arith)

pub first_true : (a b : Truth) → (a && b) ≡ true → a ≡ true
first_true true b h = refl
first_true false b h = h

pub second_true : (a b : Truth) → (a && b) ≡ true → b ≡ true
second_true true b h = h
second_true false b h = cc

pub neither : (b c : Truth) → (b || c) ≡ false → (b ≡ false) × (c ≡ false)
neither false c h = (refl, h)
neither true c h = cc

-- one write: its own place, and every other one
set-here : (row : List Value) (p : ℕ) (v : Value) → p < length row → slice_get (slice_set row p v) p ≡ Some v
set-here [] p v l = absurd (omega arith)
set-here (x ∷ row) zero v l = refl
set-here (x ∷ row) (suc p) v l = let k : p < length row = omega arith in set-here row p v k

set-other : (row : List Value) (p c : ℕ) (v : Value) → p ≢ c → slice_get (slice_set row p v) c ≡ slice_get row c
set-other [] p c v n = refl
set-other (x ∷ row) zero zero v n = absurd (n refl)
set-other (x ∷ row) zero (suc c) v n = refl
set-other (x ∷ row) (suc p) zero v n = refl
set-other (x ∷ row) (suc p) (suc c) v n = set-other row p c v (λ e. n (ap suc e))

pub other-cells : OtherCells
other-cells [] cells row c h = refl
other-cells (p ∷ given) [] row c h = refl
other-cells (p ∷ given) (v ∷ cells) row c h =
    let n = neither (p == c) (list_any (λ place. place == c) given) h in
    other-cells given cells (slice_set row p v) c n.1 ∙ set-other row p c v (eqb-false p c n.0)

-- places that rise from above c on tell c nowhere
not-later : (a b c : ℕ) (given : List ℕ) → c < a → rise_within a b given ≡ true → list_any (λ place. place == c) given ≡ false
not-later a b c [] l h = refl
not-later a b c (p ∷ given) l h =
    let rest = rise_within (p + 1) b given in
    let within : (nat_le a p && nat_lt p b) ≡ true = first_true (nat_le a p && nat_lt p b) rest h in
    let low : a ≤ p = leb-true a p (first_true (nat_le a p) (nat_lt p b) within) in
    let past : c < p + 1 = omega arith in
    ap (λ t. t || list_any (λ place. place == c) given) (apart (p == c) refl (omega arith)) ∙ not-later (p + 1) b c given past (second_true (nat_le a p && nat_lt p b) rest h)
  where
    apart : (t : Truth) → (p == c) ≡ t → c < p → (p == c) ≡ false
    apart false e l = e
    apart true e l = let same : p ≡ c = eqb-true p c e in absurd (omega arith)

pub carried-cells : CarriedCells
carried-cells a b [] cells row i place cell h l g v = cc
carried-cells a b (p ∷ given) [] row i place cell h l g v = cc
carried-cells a b (p ∷ given) (w ∷ cells) row zero place cell h l g v =
    let rest = rise_within (p + 1) b given in
    let within : (nat_le a p && nat_lt p b) ≡ true = first_true (nat_le a p && nat_lt p b) rest h in
    let high : p < b = ltb-true p b (second_true (nat_le a p) (nat_lt p b) within) in
    let is : p ≡ place = cc in
    let same : w ≡ cell = cc in
    let here : p < length row = omega arith in
    ap (slice_get (with_cells given cells (slice_set row p w))) (sym is)
    ∙ other-cells given cells (slice_set row p w) p (not-later (p + 1) b p given (omega arith) (second_true (nat_le a p && nat_lt p b) rest h))
    ∙ set-here row p w here
    ∙ ap Some same
carried-cells a b (p ∷ given) (w ∷ cells) row (suc i) place cell h l g v =
    let rest = rise_within (p + 1) b given in
    let long : b ≤ length (slice_set row p w) = omega (arith, length-set row p w) in
    carried-cells (p + 1) b given cells (slice_set row p w) i place cell (second_true (nat_le a p && nat_lt p b) rest h) long g v

-- ---- a whole line

set-after : (low ds : List Value) (d v : Value) → slice_set (low ++ d ∷ ds) (length low) v ≡ low ++ v ∷ ds
set-after [] ds d v = refl
set-after (x ∷ low) ds d v = ap (λ row. x ∷ row) (set-after low ds d v)

with-all : (i : ℕ) (given : List ℕ) (low ds cells : List Value) → length low ≡ i → are_counted i given ≡ true → length given ≡ length cells → length ds ≡ length cells
    → with_cells given cells (low ++ ds) ≡ low ++ cells
with-all i [] low [] [] l c g d = refl
with-all i [] low (x ∷ ds) [] l c g d = absurd (omega arith)
with-all i [] low ds (v ∷ vs) l c g d = absurd (omega arith)
with-all i (p ∷ ps) low ds [] l c g d = absurd (omega arith)
with-all i (p ∷ ps) low [] (v ∷ vs) l c g d = absurd (omega arith)
with-all i (p ∷ ps) low (x ∷ ds) (v ∷ vs) l c g d =
    let place : length low ≡ p = l ∙ sym (eqb-true p i (first_true (p == i) (are_counted (i + 1) ps) c)) in
    let set : slice_set (low ++ x ∷ ds) p v ≡ (low ++ v ∷ []) ++ ds =
    ap (λ n. slice_set (low ++ x ∷ ds) n v) (sym place) ∙ set-after low ds x v ∙ sym (append_assoc low (v ∷ []) ds) in
    let on : length (low ++ v ∷ []) ≡ i + 1 = length-append low (v ∷ []) ∙ ap (λ n. n + 1) l in
    let fewer : length ps ≡ length vs = omega arith in
    let left : length ds ≡ length vs = omega arith in
    ap (with_cells ps vs) set
    ∙ with-all (i + 1) ps (low ++ v ∷ []) ds vs on (second_true (p == i) (are_counted (i + 1) ps) c) fewer left
    ∙ append_assoc low (v ∷ []) vs

-- written into a new row it leaves its key and its cells
pub whole-line : (s : Layout) (given : List ℕ) (key cells : List Value) → is_whole s given (length key) (length cells) ≡ true
    → with_cells given cells (new_row s key) ≡ key ++ cells
whole-line s given key cells h =
    let others = length (drop s.keys s.columns) in
    let counted = are_counted s.keys given in
    let two = (length key == s.keys) && (length given == others) in
    let three = two && (length cells == others) in
    let h3 : three ≡ true = first_true three counted h in
    let h2 : two ≡ true = first_true two (length cells == others) h3 in
    let keys : length key ≡ s.keys = eqb-true (length key) s.keys (first_true (length key == s.keys) (length given == others) h2) in
    let places : length given ≡ others = eqb-true (length given) others (second_true (length key == s.keys) (length given == others) h2) in
    let count : length cells ≡ others = eqb-true (length cells) others (second_true two (length cells == others) h3) in
    with-all s.keys given key (map default_cell (drop s.keys s.columns)) cells keys (second_true three counted h) (places ∙ sym count)
    (length-map (drop s.keys s.columns) default_cell ∙ sym count)
