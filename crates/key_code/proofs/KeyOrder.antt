-- Codes of keys compare as the keys do.
use Rattle.std.proofs.Common.{◌≡◌, ℕ, ◌+◌, ◌<◌, ◌≤◌, List, [], ◌∷◌, ◌++◌, length, true, false, cond, ◌==◌, Option, Some, None, option_map, drop, get_or, refl, sym, ap, ap₂, ◌∙◌, subst, inl, inr, arith}
use Rattle.std.specs.Prelude.{ℤ}
use Rattle.std.specs.Cmp.Lexicographic.{slice_cmp}
use Rattle.std.specs.Ordering.{int_cmp, nat_cmp, ordering_then}
use Rattle.std.specs.FinMap.{slice_cmp-IsAntisymmetric, nat_cmp-IsAntisymmetric, int_cmp-IsAntisymmetric}
use Rattle.std.specs.declared.cmp.Ordering.{Ordering}
use Rattle.std.specs.declared.cmp.Ordering.TheVariants.{Less, Equal, Greater}
use Rattle.std.proofs.lemmas.Bool.{cases_eq, cond_both, eq-eqb, eqb-true, eqb-false, ne_eqb}
use Rattle.std.proofs.lemmas.List.{append-nil, append_assoc, drop_more, length-drop}
use Rattle.fixed_code.specs.NumberCode.{FitsBytes, number_code}
use Rattle.fixed_code.proofs.Codes.{codes_cmp, length-code, less_is, more_is, same_is}
use Rattle.key_code.specs.Escapes.{escaped, put_before, unescaped}
use Rattle.key_code.proofs.Parts.{FitOne, FitOneSchema, Part, cmp_key, cmp_part, flag, key_code, number, part_code, text}

-- ---- the order of lists

then_equal : (o : Ordering) → ordering_then o Equal ≡ o
then_equal Less = refl
then_equal Equal = refl
then_equal Greater = refl

then_assoc : (a b c : Ordering) → ordering_then (ordering_then a b) c ≡ ordering_then a (ordering_then b c)
then_assoc Less b c = refl
then_assoc Equal b c = refl
then_assoc Greater b c = refl

-- after fronts of one length the rest decides where the fronts are equal
same_length_then : (a b s t : List ℕ) → length a ≡ length b → slice_cmp nat_cmp (a ++ s) (b ++ t) ≡ ordering_then (slice_cmp nat_cmp a b) (slice_cmp nat_cmp s t)
same_length_then [] [] s t e = refl
same_length_then [] (y ∷ ys) s t e = absurd (omega arith)
same_length_then (x ∷ xs) [] s t e = absurd (omega arith)
same_length_then (x ∷ xs) (y ∷ ys) s t e =
    ap (ordering_then (nat_cmp x y)) (same_length_then xs ys s t (omega arith)) ∙ sym (then_assoc (nat_cmp x y) (slice_cmp nat_cmp xs ys) (slice_cmp nat_cmp s t))

pos_of_ne : (n : ℕ) → (n ≡ 0 → ⊥) → 0 < n
pos_of_ne n ne = omega arith

pub same_list : (xs : List ℕ) → slice_cmp nat_cmp xs xs ≡ Equal
same_list [] = refl
same_list (x ∷ xs) = rw (same_is x x refl) (same_list xs)

-- ---- an escaped text

at_zero : (rest : List ℕ) (c : ℕ) → c ≡ 0 → escaped (c ∷ rest) ≡ 0 ∷ 1 ∷ escaped rest
at_zero rest c e = rw (eq-eqb c 0 e) refl

at_other : (rest : List ℕ) (c : ℕ) → (c ≡ 0 → ⊥) → escaped (c ∷ rest) ≡ c ∷ escaped rest
at_other rest c ne = rw (ne_eqb c 0 ne) refl

pub escaped_then : (a b s t : List ℕ) → slice_cmp nat_cmp (escaped a ++ s) (escaped b ++ t) ≡ ordering_then (slice_cmp nat_cmp a b) (slice_cmp nat_cmp s t)
escaped_then [] [] s t = refl
escaped_then [] (y ∷ ys) s t = elim (cases_eq y 0) [
  | inl e ↦ rw (at_zero ys y e) refl
  | inr ne ↦ rw (at_other ys y ne, less_is 0 y (pos_of_ne y ne)) refl
]
escaped_then (x ∷ xs) [] s t = elim (cases_eq x 0) [
  | inl e ↦ rw (at_zero xs x e) refl
  | inr ne ↦ rw (at_other xs x ne, more_is x 0 (pos_of_ne x ne)) refl
]
escaped_then (x ∷ xs) (y ∷ ys) s t =
    let ih = escaped_then xs ys s t in
    elim (cases_eq x 0) [
      | inl e ↦ elim (cases_eq y 0) [
        | inl f ↦ rw (at_zero xs x e, at_zero ys y f, same_is x y (e ∙ sym f)) ih
        | inr nf ↦ let l : x < y = omega arith in rw (at_zero xs x e, at_other ys y nf, less_is 0 y (pos_of_ne y nf), less_is x y l) refl
      ]
      | inr ne ↦ elim (cases_eq y 0) [
        | inl f ↦ let l : y < x = omega arith in rw (at_other xs x ne, at_zero ys y f, more_is x 0 (pos_of_ne x ne), more_is x y l) refl
        | inr nf ↦ rw (at_other xs x ne, at_other ys y nf)
            (ap (ordering_then (nat_cmp x y)) ih ∙ sym (then_assoc (nat_cmp x y) (slice_cmp nat_cmp xs ys) (slice_cmp nat_cmp s t)))
      ]
    ]

front_other : (c : ℕ) (xs : List ℕ) → (c ≡ 0 → ⊥) → 0 < length xs → unescaped (c ∷ xs) ≡ put_before c (unescaped xs)
unfolding unescaped
front_other c [] ne lt = absurd (omega arith)
front_other c (d ∷ xs) ne lt = rw (ne_eqb c 0 ne) refl

escaped_long : (a s : List ℕ) → 0 < length (escaped a ++ s)
escaped_long [] s = omega arith
escaped_long (c ∷ rest) s = elim (cases_eq c 0) [ inl e ↦ rw (at_zero rest c e) (omega arith) | inr ne ↦ rw (at_other rest c ne) (omega arith) ]

-- the text that was read, escaped, is what was read
Reads : List ℕ → Option (List ℕ × List ℕ) → Type 0
Reads bs None = Unit {0}
Reads bs (Some p) = bs ≡ escaped p.0 ++ p.1

reads_zero : (rest : List ℕ) (o : Option (List ℕ × List ℕ)) → Reads rest o → Reads (0 ∷ 1 ∷ rest) (put_before 0 o)
unfolding Reads
reads_zero rest None h = tt
reads_zero rest (Some p) h = ap (λ (t : List ℕ). 0 ∷ 1 ∷ t) h

reads_other : (c : ℕ) (rest : List ℕ) (o : Option (List ℕ × List ℕ)) → (c ≡ 0 → ⊥) → Reads rest o → Reads (c ∷ rest) (put_before c o)
unfolding Reads
reads_other c rest None ne h = tt
reads_other c rest (Some p) ne h = ap (λ (t : List ℕ). c ∷ t) h ∙ ap (λ (t : List ℕ). t ++ p.1) (sym (at_other p.0 c ne))

reads : (bs : List ℕ) → Reads bs (unescaped bs)
unfolding Reads unescaped
reads [] = tt
reads (c ∷ []) = tt
reads (c ∷ d ∷ rest) =
    cond_both (c == 0) (cond (d == 0) (Some ([], rest)) (cond (d == 1) (put_before 0 (unescaped rest)) None)) (put_before c (unescaped (d ∷ rest))) (Reads (c ∷ d ∷ rest))
    (λ z. cond_both (d == 0) (Some ([], rest)) (cond (d == 1) (put_before 0 (unescaped rest)) None) (Reads (c ∷ d ∷ rest))
    (λ e. rw (eqb-true c 0 z, eqb-true d 0 e) refl)
    (λ ne. cond_both (d == 1) (put_before 0 (unescaped rest)) None (Reads (c ∷ d ∷ rest))
    (λ o. rw (eqb-true c 0 z, eqb-true d 1 o) (reads_zero rest (unescaped rest) (reads rest)))
    (λ no. tt)))
    (λ nz. reads_other c (d ∷ rest) (unescaped (d ∷ rest)) (eqb-false c 0 nz) (reads (d ∷ rest)))

pub reads_only : (bs a s : List ℕ) → unescaped bs ≡ Some (a, s) → bs ≡ escaped a ++ s
unfolding Reads
reads_only bs a s e = subst (λ (o : Option (List ℕ × List ℕ)). Reads bs o) e (reads bs)

-- what was escaped reads back, and what follows it stays
pub reads_back : (a s : List ℕ) → unescaped (escaped a ++ s) ≡ Some (a, s)
unfolding unescaped
reads_back [] s = refl
reads_back (c ∷ rest) s = elim (cases_eq c 0) [
  | inl e ↦ rw (at_zero rest c e) (ap (put_before 0) (reads_back rest s) ∙ ap (λ (b : ℕ). Some (b ∷ rest, s)) (sym e))
  | inr ne ↦ rw (at_other rest c ne) (front_other c (escaped rest ++ s) ne (escaped_long rest s) ∙ ap (put_before c) (reads_back rest s))
]

-- ---- a key

pub number_then : (w v : ℕ) (a b : ℤ) (s t : List ℕ) → w ≡ v → 1 ≤ w → w ≤ 16 → FitsBytes w a → FitsBytes w b
    → slice_cmp nat_cmp (number_code w a ++ s) (number_code v b ++ t) ≡ ordering_then (int_cmp a b) (slice_cmp nat_cmp s t)
number_then w v a b s t e low high f g =
    ap (λ (u : ℕ). slice_cmp nat_cmp (number_code w a ++ s) (number_code u b ++ t)) (sym e)
    ∙ same_length_then (number_code w a) (number_code w b) s t (length-code w a ∙ sym (length-code w b))
    ∙ ap (λ (o : Ordering). ordering_then o (slice_cmp nat_cmp s t)) (codes_cmp w a b low high f g)

-- a cell that more follows
cell_then : (p q : Part) (s t : List ℕ) → FitOne p q → slice_cmp nat_cmp (part_code false p ++ s) (part_code false q ++ t) ≡ ordering_then (cmp_part p q) (slice_cmp nat_cmp s t)
cell_then (flag a) (flag b) s t fit = refl
cell_then (number w a) (number v b) s t fit = number_then w v a b s t fit.0 fit.1 fit.2 fit.3 fit.4
cell_then (text a) (text b) s t fit = escaped_then a b s t
cell_then (flag a) (number v b) s t fit = absurd fit
cell_then (flag a) (text b) s t fit = absurd fit
cell_then (number w a) (flag b) s t fit = absurd fit
cell_then (number w a) (text b) s t fit = absurd fit
cell_then (text a) (flag b) s t fit = absurd fit
cell_then (text a) (number v b) s t fit = absurd fit

-- the last cell
cell_last : (p q : Part) → FitOne p q → slice_cmp nat_cmp (part_code true p) (part_code true q) ≡ cmp_part p q
cell_last (flag a) (flag b) fit = then_equal (nat_cmp a b)
cell_last (number w a) (number v b) fit =
    ap (λ (u : ℕ). slice_cmp nat_cmp (number_code w a) (number_code u b)) (sym fit.0) ∙ codes_cmp w a b fit.1 fit.2 fit.3 fit.4
cell_last (text a) (text b) fit = refl
cell_last (flag a) (number v b) fit = absurd fit
cell_last (flag a) (text b) fit = absurd fit
cell_last (number w a) (flag b) fit = absurd fit
cell_last (number w a) (text b) fit = absurd fit
cell_last (text a) (flag b) fit = absurd fit
cell_last (text a) (number v b) fit = absurd fit

-- codes of keys have the order of the keys
pub keys_in_order : (ps qs : List Part) → FitOneSchema ps qs → slice_cmp nat_cmp (key_code ps) (key_code qs) ≡ cmp_key ps qs
keys_in_order [] [] fit = refl
keys_in_order [] (q ∷ qs) fit = absurd fit
keys_in_order (p ∷ ps) [] fit = absurd fit
keys_in_order (p ∷ []) (q ∷ []) fit =
    rw (append-nil (part_code true p), append-nil (part_code true q)) (cell_last p q fit.0) ∙ sym (then_equal (cmp_part p q))
keys_in_order (p ∷ []) (q ∷ r ∷ qs) fit = absurd fit.1
keys_in_order (p ∷ r ∷ ps) (q ∷ []) fit = absurd fit.1
keys_in_order (p ∷ r ∷ ps) (q ∷ u ∷ qs) fit =
    cell_then p q (key_code (r ∷ ps)) (key_code (u ∷ qs)) fit.0 ∙ ap (ordering_then (cmp_part p q)) (keys_in_order (r ∷ ps) (u ∷ qs) fit.1)

-- keys that compare as equal are equal
same_part : (p q : Part) → FitOne p q → cmp_part p q ≡ Equal → p ≡ q
same_part (flag a) (flag b) fit e = ap flag (nat_cmp-IsAntisymmetric a b e)
same_part (number w a) (number v b) fit e = ap (λ (u : ℕ). number u a) fit.0 ∙ ap (number v) (int_cmp-IsAntisymmetric a b e)
same_part (text a) (text b) fit e = ap text (slice_cmp-IsAntisymmetric nat_cmp-IsAntisymmetric a b e)
same_part (flag a) (number v b) fit e = absurd fit
same_part (flag a) (text b) fit e = absurd fit
same_part (number w a) (flag b) fit e = absurd fit
same_part (number w a) (text b) fit e = absurd fit
same_part (text a) (flag b) fit e = absurd fit
same_part (text a) (number v b) fit e = absurd fit

pub then_parts : (a b : Ordering) → ordering_then a b ≡ Equal → (a ≡ Equal) × (b ≡ Equal)
then_parts Less b e = cc
then_parts Equal b e = (refl, e)
then_parts Greater b e = cc

same_key : (ps qs : List Part) → FitOneSchema ps qs → cmp_key ps qs ≡ Equal → ps ≡ qs
same_key [] [] fit e = refl
same_key [] (q ∷ qs) fit e = absurd fit
same_key (p ∷ ps) [] fit e = absurd fit
same_key (p ∷ ps) (q ∷ qs) fit e =
    let b = then_parts (cmp_part p q) (cmp_key ps qs) e in
    ap (λ (r : Part). r ∷ ps) (same_part p q fit.0 b.0) ∙ ap (λ (rs : List Part). q ∷ rs) (same_key ps qs fit.1 b.1)

-- different keys have different codes
pub one_key : (ps qs : List Part) → FitOneSchema ps qs → key_code ps ≡ key_code qs → ps ≡ qs
one_key ps qs fit e =
    same_key ps qs fit (sym (keys_in_order ps qs fit) ∙ ap (λ (c : List ℕ). slice_cmp nat_cmp c (key_code qs)) e ∙ same_list (key_code qs))

-- ---- the loops

-- a text that was read so far, before what the rest reads as
abbrev pub put_front : List ℕ → Option (List ℕ × List ℕ) → Option (List ℕ × List ℕ)
put_front front = option_map (λ p. (front ++ p.0, p.1))

front_more : (front : List ℕ) (c : ℕ) (o : Option (List ℕ × List ℕ)) → put_front front (put_before c o) ≡ put_front (front ++ c ∷ []) o
front_more front c None = refl
front_more front c (Some p) = ap (λ (t : List ℕ). Some (t, p.1)) (sym (append_assoc front (c ∷ []) p.0))

two_bytes : (bs : List ℕ) (i c d : ℕ) → i + 1 < length bs → c ≡ get_or bs i 0 → d ≡ get_or bs (i + 1) 0 → drop i bs ≡ c ∷ d ∷ drop (i + 1 + 1) bs
two_bytes bs i c d lt at at' =
    let lt' : i < length bs = omega arith in
    drop_more bs i 0 lt' ∙ ap (λ (t : List ℕ). get_or bs i 0 ∷ t) (drop_more bs (i + 1) 0 lt) ∙ ap₂ (λ (x y : ℕ). x ∷ y ∷ drop (i + 1 + 1) bs) (sym at) (sym at')

pub read_other : (front bs : List ℕ) (i c : ℕ) (whole : Option (List ℕ × List ℕ)) → i + 1 < length bs → c ≡ get_or bs i 0 → (c ≡ 0 → ⊥)
    → put_front front (unescaped (drop i bs)) ≡ whole → put_front (front ++ c ∷ []) (unescaped (drop (i + 1) bs)) ≡ whole
read_other front bs i c whole lt at ne inv =
    let lt' : i < length bs = omega arith in
    let left : 0 < length (drop (i + 1) bs) = omega (arith, length-drop (i + 1) bs) in
    let more : drop i bs ≡ c ∷ drop (i + 1) bs = drop_more bs i 0 lt' ∙ ap (λ (x : ℕ). x ∷ drop (i + 1) bs) (sym at) in
    sym (front_more front c (unescaped (drop (i + 1) bs)))
    ∙ ap (put_front front) (sym (ap unescaped more ∙ front_other c (drop (i + 1) bs) ne left)) ∙ inv

pub read_zero : (front bs : List ℕ) (i c d : ℕ) (whole : Option (List ℕ × List ℕ)) → i + 1 < length bs → c ≡ get_or bs i 0 → d ≡ get_or bs (i + 1) 0 → c ≡ 0 → d ≡ 1
    → put_front front (unescaped (drop i bs)) ≡ whole → put_front (front ++ c ∷ []) (unescaped (drop (i + 1 + 1) bs)) ≡ whole
unfolding unescaped
read_zero front bs i c d whole lt at at' z o inv =
    let two = two_bytes bs i c d lt at at' in
    let e : unescaped (drop i bs) ≡ put_before 0 (unescaped (drop (i + 1 + 1) bs)) = ap unescaped two ∙ rw (z, o) refl in
    ap (λ (b : ℕ). put_front (front ++ b ∷ []) (unescaped (drop (i + 1 + 1) bs))) z
    ∙ sym (front_more front 0 (unescaped (drop (i + 1 + 1) bs))) ∙ ap (put_front front) (sym e) ∙ inv

pub read_end : (front bs : List ℕ) (i c d : ℕ) (whole : Option (List ℕ × List ℕ)) → i + 1 < length bs → c ≡ get_or bs i 0 → d ≡ get_or bs (i + 1) 0 → c ≡ 0 → d ≡ 0
    → put_front front (unescaped (drop i bs)) ≡ whole → Some (front, drop (i + 2) bs) ≡ whole
unfolding unescaped
read_end front bs i c d whole lt at at' z o inv =
    let two = two_bytes bs i c d lt at at' in
    let e : unescaped (drop i bs) ≡ Some ([], drop (i + 1 + 1) bs) = ap unescaped two ∙ rw (z, o) refl in
    let j : i + 2 ≡ i + 1 + 1 = omega arith in
    ap₂ (λ (t u : List ℕ). Some (t, u)) (sym (append-nil front)) (ap (λ (k : ℕ). drop k bs) j) ∙ ap (put_front front) (sym e) ∙ inv

pub read_bad : (front bs : List ℕ) (i c d : ℕ) (whole : Option (List ℕ × List ℕ)) → i + 1 < length bs → c ≡ get_or bs i 0 → d ≡ get_or bs (i + 1) 0 → c ≡ 0 → (d ≡ 0 → ⊥) → (d ≡ 1 → ⊥)
    → put_front front (unescaped (drop i bs)) ≡ whole → None ≡ whole
unfolding unescaped
read_bad front bs i c d whole lt at at' z nz nu inv =
    let two = two_bytes bs i c d lt at at' in
    let e : unescaped (drop i bs) ≡ None = ap unescaped two ∙ rw (z, ne_eqb d 0 nz, ne_eqb d 1 nu) refl in
    ap (put_front front) (sym e) ∙ inv

short_none : (xs : List ℕ) → length xs ≤ 1 → unescaped xs ≡ None
unfolding unescaped
short_none [] le = refl
short_none (c ∷ []) le = refl
short_none (c ∷ d ∷ rest) le = absurd (omega arith)

pub read_short : (front bs : List ℕ) (i : ℕ) (whole : Option (List ℕ × List ℕ)) → length bs ≤ i + 1 → put_front front (unescaped (drop i bs)) ≡ whole → None ≡ whole
read_short front bs i whole le inv =
    let left : length (drop i bs) ≤ 1 = omega (arith, length-drop i bs) in
    ap (put_front front) (sym (short_none (drop i bs) left)) ∙ inv
