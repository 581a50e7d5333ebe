-- What the front of a code reads as.
use Rattle.std.proofs.Common.{◌≡◌, ◌≤◌, ◌<◌, ℕ, ◌+◌, ◌-◌, ◌==◌, List, [], ◌∷◌, ◌++◌, Bool, true, false, Option, Some, None, refl, sym, ap, ap₂, subst, ◌∙◌, arith, take, drop, length, get_or}
use Rattle.std.specs.Prelude.{IfSome}
use Rattle.std.specs.Cmp.Lexicographic.{slice_cmp}
use Rattle.std.specs.Ordering.{nat_cmp, ordering_then}
use Rattle.std.specs.declared.cmp.Ordering.{Ordering}
use Rattle.std.specs.declared.cmp.Ordering.TheVariants.{Less, Equal, Greater}
use Rattle.std.proofs.lemmas.Bool.{false≢true}
use Rattle.std.proofs.lemmas.List.{append-nil, append_assoc, drop-drop, take_all, drop_all, drop_more, length-append, length-drop}
use Rattle.fixed_code.proofs.Codes.{length-code}
use Rattle.pk_values.specs.declared.cells.Kind.{Kind}
use Rattle.pk_values.specs.declared.cells.Value.{Value}
use Rattle.pk_values.specs.declared.cells.Value.TheVariants as value
use Rattle.pk_values.specs.declared.cells.Column.{Column}
use Rattle.pk_values.specs.Fits.{fits, fits_kind}
use Rattle.pk_values.specs.Order.{value_cmp}
use Rattle.pk_values.specs.OrderFacts.{value_exact}
use Rattle.key_code.specs.Escapes.{escaped, unescaped}
use Rattle.fixed_code.specs.NumberCode.{FitsBytes}
use Rattle.pk_values.specs.Shapes.{IsNumber}
use Rattle.key_code.specs.Shapes.{HasCode, IsAnyText}
use Rattle.key_code.specs.KeyCode.{cell_code, cells_code, no_more, numeric_code, text_code}
use Rattle.key_code.specs.Keys.{AreCells, HaveNoCells}
use Rattle.key_code.specs.Reads.{EndsText, IsCell, IsFront}
use Rattle.key_code.proofs.Parts.{FitOne, Part, cmp_part, flag, number, part_code, text}
use Rattle.key_code.proofs.KeyOrder.{escaped_then, number_then, reads_back, reads_only, same_list, then_parts}
use Rattle.key_code.proofs.KeyLemmas.{IsTextPart, a_text, code_is, facts, has_code, last_is, no_more_is, part_of, text_part}
use Rattle.std.specs.FinMap.{slice_cmp-IsAntisymmetric, nat_cmp-IsAntisymmetric}

-- ---- one kind

-- too few bytes for a number
pub short_number : (w : ℕ) (bs : List ℕ) → length bs < w → IsFront (IsNumber (FitsBytes w)) (numeric_code w) bs None
short_number w bs lt value.Null more h e = absurd h
short_number w bs lt (value.Bool b) more h e = absurd h
short_number w bs lt (value.Num z) more h e = omega (arith, ap length e, length-append (numeric_code w (value.Num z)) more, length-code w z)
short_number w bs lt (value.Day d) more h e = absurd h
short_number w bs lt (value.Text t) more h e = absurd h

pub no_text : (bs : List ℕ) → None ≡ unescaped bs → IsFront IsAnyText (text_code false) bs None
no_text bs none value.Null more h e = absurd h
no_text bs none (value.Bool b) more h e = absurd h
no_text bs none (value.Num z) more h e = absurd h
no_text bs none (value.Day d) more h e = absurd h
no_text bs none (value.Text t) more h e = let back : unescaped bs ≡ Some (t, more) = ap unescaped e ∙ reads_back t more in cc

pub escaped_text : (bs t : List ℕ) (n : ℕ) → Some (t, drop n bs) ≡ unescaped bs → bs ≡ escaped t ++ drop n bs
escaped_text bs t n e = reads_only bs t (drop n bs) (sym e)

-- ---- one cell

then_equal_at : (o : Ordering) → ordering_then o Equal ≡ o
then_equal_at Less = refl
then_equal_at Equal = refl
then_equal_at Greater = refl

list_exact : (s t : List ℕ) → slice_cmp nat_cmp s t ≡ Equal → s ≡ t
list_exact s t e = slice_cmp-IsAntisymmetric nat_cmp-IsAntisymmetric s t e

part_then : (last : Bool) (p q : Part) (s t : List ℕ) → FitOne p q → (last ≡ true → IsTextPart p → (s ≡ []) × (t ≡ [])) → slice_cmp nat_cmp (part_code last p ++ s) (part_code last q ++ t) ≡ ordering_then (cmp_part p q) (slice_cmp nat_cmp s t)
part_then last (flag a) (flag b) s t fit ends = refl
part_then last (number w a) (number v b) s t fit ends = number_then w v a b s t fit.0 fit.1 fit.2 fit.3 fit.4
part_then false (text a) (text b) s t fit ends = escaped_then a b s t
part_then true (text a) (text b) s t fit ends =
    let e = ends refl (a_text a) in
    ap₂ (λ (x y : List ℕ). slice_cmp nat_cmp (a ++ x) (b ++ y)) e.0 e.1 ∙ ap₂ (slice_cmp nat_cmp) (append-nil a) (append-nil b)
    ∙ sym (then_equal_at (slice_cmp nat_cmp a b)) ∙ sym (ap₂ (λ (x y : List ℕ). ordering_then (slice_cmp nat_cmp a b) (slice_cmp nat_cmp x y)) e.0 e.1)
part_then last (flag a) (number v b) s t fit ends = absurd fit
part_then last (flag a) (text b) s t fit ends = absurd fit
part_then last (number w a) (flag b) s t fit ends = absurd fit
part_then last (number w a) (text b) s t fit ends = absurd fit
part_then last (text a) (flag b) s t fit ends = absurd fit
part_then last (text a) (number v b) s t fit ends = absurd fit

-- of two values of a kind whose codes begin the same bytes
same_cell : (last : Bool) (k : Kind) (v u : Value) (s t : List ℕ) → HasCode k v → HasCode k u → (last ≡ true → IsAnyText v → s ≡ []) → (last ≡ true → t ≡ []) → cell_code last k v ++ s ≡ cell_code last k u ++ t → (v ≡ u) × (s ≡ t)
same_cell last k v u s t f g ends ends' e =
    let order : slice_cmp nat_cmp (cell_code last k v ++ s) (cell_code last k u ++ t) ≡ ordering_then (value_cmp v u) (slice_cmp nat_cmp s t) =
    ap₂ (λ (x y : List ℕ). slice_cmp nat_cmp (x ++ s) (y ++ t)) (code_is last k v f) (code_is last k u g)
    ∙ part_then last (part_of k v) (part_of k u) s t (facts k v u f g).fit (λ l x. (ends l (text_part k v x), ends' l))
    ∙ ap (λ (o : Ordering). ordering_then o (slice_cmp nat_cmp s t)) (facts k v u f g).order in
    let same = same_list (cell_code last k u ++ t) in
    let both = then_parts (value_cmp v u) (slice_cmp nat_cmp s t) (sym order ∙ ap (λ (x : List ℕ). slice_cmp nat_cmp x (cell_code last k u ++ t)) e ∙ same) in
    (value_exact v u both.0, list_exact s t both.1)

-- ---- what `read_cell` answers

pub cell_found : (last : Bool) (k : Kind) (bs : List ℕ) (v : Value) (n : ℕ) → IsFront (HasCode k) (cell_code last k) bs (Some (v, n)) → EndsText last bs (v, n) → fits_kind k v ≡ true → IsCell last k bs (Some (v, n))
cell_found last k bs v n front ends fits = (
  fits,
  front.1,
  front.2,
  λ u more begins.
      let same = same_cell last k v u (drop n bs) more front.0 (has_code k u begins.0) ends begins.1 (sym front.1 ∙ begins.2) in
      (sym same.0, sym same.1),
)

pub cell_unfit : (last : Bool) (k : Kind) (bs : List ℕ) (v : Value) (n : ℕ) → IsFront (HasCode k) (cell_code last k) bs (Some (v, n)) → EndsText last bs (v, n) → fits_kind k v ≡ false → IsCell last k bs None
cell_unfit last k bs v n front ends unfit u more begins =
    let same = same_cell last k v u (drop n bs) more front.0 (has_code k u begins.0) ends begins.1 (sym front.1 ∙ begins.2) in
    false≢true (sym unfit ∙ ap (fits_kind k) same.0 ∙ begins.0)

pub cell_none : (last : Bool) (k : Kind) (bs : List ℕ) → IsFront (HasCode k) (cell_code last k) bs None → IsCell last k bs None
cell_none last k bs front u more begins = front u more (has_code k u begins.0) begins.2

-- ---- the cells of a key

-- cells of the columns with this code are the ones read so far and then cells of the columns that are left, with the code that is left
pub record IsNarrowed (cs : List Column) (code : List ℕ) (left : List Column) (cells : List Value) (rest : List ℕ) : Type 0 where
  pub to : (vs : List Value) → AreCells cs code vs → (more : List Value) × (vs ≡ cells ++ more) × AreCells left rest more
  pub from : (more : List Value) → AreCells left rest more → AreCells cs code (cells ++ more)

pub narrowed_start : (cs : List Column) (code : List ℕ) → IsNarrowed cs code cs [] code
narrowed_start cs code = record { to = λ vs h. (vs, refl, h); from = λ more h. h }

ends_there : (cs : List Column) (vs : List Value) → no_more cs ≡ true → cells_code cs vs ≡ []
ends_there [] vs e = refl
ends_there (c ∷ cs) vs e = cc

found_rest : (c : Column) (cs : List Column) (rest : List ℕ) (v : Value) (n : ℕ) (us : List Value) → IsCell (no_more cs) c.kind rest (Some (v, n)) → AreCells (c ∷ cs) rest us → (more : List Value) × (us ≡ v ∷ more) × AreCells cs (drop n rest) more
found_rest c cs rest v n [] cell h = absurd h.0
found_rest c cs rest v n (u ∷ us) cell h =
    let same = cell.3 u (cells_code cs us) (h.0.0, ends_there cs us, sym h.1) in
    (us, ap (λ (x : Value). x ∷ us) same.0, (h.0.1, same.1))

pub narrowed_more : (cs : List Column) (code : List ℕ) (c : Column) (left : List Column) (cells : List Value) (rest : List ℕ) (v : Value) (n : ℕ) → IsNarrowed cs code (c ∷ left) cells rest → IsCell (no_more left) c.kind rest (Some (v, n))
    → IsNarrowed cs code left (cells ++ v ∷ []) (drop n rest)
narrowed_more cs code c left cells rest v n so_far cell = record {
  to = λ vs h.
      let p = so_far.to vs h in
      let q = found_rest c left rest v n p.0 cell p.2 in
      (q.0, p.1 ∙ ap (λ (x : List Value). cells ++ x) q.1 ∙ sym (append_assoc cells (v ∷ []) q.0), q.2);
  from = λ more h.
      subst (λ (x : List Value). AreCells cs code x) (sym (append_assoc cells (v ∷ []) more))
      (so_far.from (v ∷ more) ((cell.0, h.0), ap (λ (x : List ℕ). cell_code (no_more left) c.kind v ++ x) h.1 ∙ sym cell.1));
}

none_rest : (c : Column) (cs : List Column) (rest : List ℕ) (us : List Value) → IsCell (no_more cs) c.kind rest None → AreCells (c ∷ cs) rest us → ⊥
none_rest c cs rest [] cell h = absurd h.0
none_rest c cs rest (u ∷ us) cell h = cell u (cells_code cs us) (h.0.0, ends_there cs us, sym h.1)

pub narrowed_none : (cs : List Column) (code : List ℕ) (c : Column) (left : List Column) (cells : List Value) (rest : List ℕ) → IsNarrowed cs code (c ∷ left) cells rest → IsCell (no_more left) c.kind rest None → HaveNoCells cs code
narrowed_none cs code c left cells rest so_far cell vs h =
    let p = so_far.to vs h in none_rest c left rest p.0 cell p.2

pub narrowed_end : (cs : List Column) (code : List ℕ) (cells : List Value) → IsNarrowed cs code [] cells [] → AreCells cs code cells
narrowed_end cs code cells so_far = subst (λ (x : List Value). AreCells cs code x) (append-nil cells) (so_far.from [] (tt, refl))

more_left : (rest : List ℕ) (us : List Value) → 0 < length rest → AreCells [] rest us → ⊥
more_left rest [] lt h = omega (arith, ap length h.1)
more_left rest (u ∷ us) lt h = absurd h.0

pub narrowed_over : (cs : List Column) (code : List ℕ) (cells : List Value) (rest : List ℕ) → 0 < length rest → IsNarrowed cs code [] cells rest → HaveNoCells cs code
narrowed_over cs code cells rest lt so_far vs h = let p = so_far.to vs h in more_left rest p.0 lt p.2

-- ---- the loop of `read_cells`

cell_here : (cs : List Column) (i : ℕ) (d : Column) (bs : List ℕ) (o : Option (Value × ℕ)) → i < length cs → IsCell (i + 1 == length cs) (get_or cs i d).kind bs o → IsCell (no_more (drop (i + 1) cs)) (get_or cs i d).kind bs o
cell_here cs i d bs o lt h =
    let last : no_more (drop (i + 1) cs) ≡ (i + 1 == length cs) = no_more_is (drop (i + 1) cs) ∙ last_is i (length cs) (length (drop (i + 1) cs)) lt (length-drop (i + 1) cs) in
    subst (λ (l : Bool). IsCell l (get_or cs i d).kind bs o) (sym last) h

so_far_here : (cs : List Column) (code : List ℕ) (cells : List Value) (rest : List ℕ) (i : ℕ) (d : Column) → i < length cs → IsNarrowed cs code (drop i cs) cells rest → IsNarrowed cs code (get_or cs i d ∷ drop (i + 1) cs) cells rest
so_far_here cs code cells rest i d lt h = subst (λ (xs : List Column). IsNarrowed cs code xs cells rest) (drop_more cs i d lt) h

pub none_at : (cs : List Column) (code : List ℕ) (cells : List Value) (rest : List ℕ) (i : ℕ) (d : Column) (o : Option (Value × ℕ)) → i < length cs → IsNarrowed cs code (drop i cs) cells rest → o ≡ None → IsCell (i + 1 == length cs) (get_or cs i d).kind rest o → HaveNoCells cs code
none_at cs code cells rest i d o lt so_far e cell =
    narrowed_none cs code (get_or cs i d) (drop (i + 1) cs) cells rest (so_far_here cs code cells rest i d lt so_far)
    (subst (λ (p : Option (Value × ℕ)). IsCell (no_more (drop (i + 1) cs)) (get_or cs i d).kind rest p) e (cell_here cs i d rest o lt cell))

pub more_at : (cs : List Column) (code : List ℕ) (cells next : List Value) (i at : ℕ) (d : Column) (v : Value) (n : ℕ) (o : Option (Value × ℕ)) → i < length cs → IsNarrowed cs code (drop i cs) cells (drop at code) → o ≡ Some (v, n)
    → IsCell (i + 1 == length cs) (get_or cs i d).kind (drop at code) o → next ≡ cells ++ v ∷ [] → IsNarrowed cs code (drop (i + 1) cs) next (drop (at + n) code)
more_at cs code cells next i at d v n o lt so_far e cell pushed =
    subst (λ (xs : List Value). IsNarrowed cs code (drop (i + 1) cs) xs (drop (at + n) code)) (sym pushed)
    (subst (λ (bs : List ℕ). IsNarrowed cs code (drop (i + 1) cs) (cells ++ v ∷ []) bs) (drop-drop n at code)
    (narrowed_more cs code (get_or cs i d) (drop (i + 1) cs) cells (drop at code) v n (so_far_here cs code cells (drop at code) i d lt so_far)
    (subst (λ (p : Option (Value × ℕ)). IsCell (no_more (drop (i + 1) cs)) (get_or cs i d).kind (drop at code) p) e (cell_here cs i d (drop at code) o lt cell))))

pub taken_within : (last : Bool) (k : Kind) (at : ℕ) (code : List ℕ) (v : Value) (n : ℕ) (o : Option (Value × ℕ)) → at ≤ length code → o ≡ Some (v, n) → IsCell last k (drop at code) o → at + n ≤ length code
taken_within last k at code v n o le e cell =
    let g = subst (λ (p : Option (Value × ℕ)). IsCell last k (drop at code) p) e cell in
    omega (arith, g.2, length-drop at code)

pub found_at_end : (cs : List Column) (code : List ℕ) (cells : List Value) (i at : ℕ) → length cs ≤ i → at ≡ length code → IsNarrowed cs code (drop i cs) cells (drop at code) → AreCells cs code cells
found_at_end cs code cells i at le all so_far =
    let none : drop i cs ≡ [] = drop_all i cs le in
    let over : drop at code ≡ [] = let k : length code ≤ at = omega arith in drop_all at code k in
    narrowed_end cs code cells (subst (λ (bs : List ℕ). IsNarrowed cs code [] cells bs) over (subst (λ (xs : List Column). IsNarrowed cs code xs cells (drop at code)) none so_far))

pub none_at_end : (cs : List Column) (code : List ℕ) (cells : List Value) (i at : ℕ) → length cs ≤ i → at < length code → IsNarrowed cs code (drop i cs) cells (drop at code) → HaveNoCells cs code
none_at_end cs code cells i at le lt so_far =
    let none : drop i cs ≡ [] = drop_all i cs le in
    let some : 0 < length (drop at code) = omega (arith, length-drop at code) in
    narrowed_over cs code cells (drop at code) some (subst (λ (xs : List Column). IsNarrowed cs code xs cells (drop at code)) none so_far)

-- ---- the answers of the parts

pub cell_found_at : (last : Bool) (k : Kind) (bs : List ℕ) (o : Option (Value × ℕ)) (v : Value) (n : ℕ) → o ≡ Some (v, n) → IsFront (HasCode k) (cell_code last k) bs o → IfSome o (EndsText last bs) → fits_kind k v ≡ true → IsCell last k bs (Some (v, n))
cell_found_at last k bs o v n e front ends fits =
    cell_found last k bs v n (subst (λ (p : Option (Value × ℕ)). IsFront (HasCode k) (cell_code last k) bs p) e front) (subst (λ (p : Option (Value × ℕ)). IfSome p (EndsText last bs)) e ends) fits

pub cell_unfit_at : (last : Bool) (k : Kind) (bs : List ℕ) (o : Option (Value × ℕ)) (v : Value) (n : ℕ) → o ≡ Some (v, n) → IsFront (HasCode k) (cell_code last k) bs o → IfSome o (EndsText last bs) → fits_kind k v ≡ false → IsCell last k bs None
cell_unfit_at last k bs o v n e front ends fits =
    cell_unfit last k bs v n (subst (λ (p : Option (Value × ℕ)). IsFront (HasCode k) (cell_code last k) bs p) e front) (subst (λ (p : Option (Value × ℕ)). IfSome p (EndsText last bs)) e ends) fits

pub escaped_front : (last : Bool) (bs t r : List ℕ) (n : ℕ) → last ≡ false → r ≡ t → Some (t, drop n bs) ≡ unescaped bs → n ≤ length bs → IsFront IsAnyText (text_code last) bs (Some (value.Text r, n))
escaped_front last bs t r n e same found within =
    subst (λ (l : Bool). IsFront IsAnyText (text_code l) bs (Some (value.Text r, n))) (sym e)
    (subst (λ (x : List ℕ). IsFront IsAnyText (text_code false) bs (Some (value.Text x, n))) (sym same) (tt, escaped_text bs t n found, within))

pub no_text_at : (last : Bool) (bs : List ℕ) → last ≡ false → None ≡ unescaped bs → IsFront IsAnyText (text_code last) bs None
no_text_at last bs e none = subst (λ (l : Bool). IsFront IsAnyText (text_code l) bs None) (sym e) (no_text bs none)

-- what stands from a place on
pub take_rest : (bs : List ℕ) (at : ℕ) → take (length bs - at) (drop at bs) ≡ drop at bs
take_rest bs at = let le : length (drop at bs) ≤ length bs - at = omega (arith, length-drop at bs) in take_all (length bs - at) (drop at bs) le

pub piece_cell : (last : Bool) (k : Kind) (piece bs : List ℕ) (o : Option (Value × ℕ)) → piece ≡ bs → IsCell last k piece o → IsCell last k bs o
piece_cell last k piece bs o e h = subst (λ (x : List ℕ). IsCell last k x o) e h
