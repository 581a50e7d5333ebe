-- The digits that a number is written in spell that number.
use Rattle.std.proofs.Common.{◌≡◌, refl, sym, ap, subst, ◌∙◌, ℕ, suc, ◌+◌, ◌-◌, ◌*◌, ◌/◌, ◌%◌, ◌^◌, ◌<◌, ◌≤◌, List, [], ◌∷◌, ◌++◌, Bool, true, false, cond, Some, None, arith, ◌==◌}
use Rattle.std.specs.Prelude.{ℤ, pos, negsuc, option_map, nat_le}
use Rattle.std.specs.Fmt.{decimal, signed_decimal}
use Rattle.std.proofs.lemmas.Bool.{and_from, and_parts, le-leb, leb-true, ne_eqb}
use Rattle.std.proofs.lemmas.Fmt.{decimal_by_steps_wide}
use Rattle.pk_values.specs.Fits.{null_mark}
use Rattle.cell_text.specs.Days.{is_digit}
use Rattle.cell_text.specs.Cells.{digits_after, digits_of, is_word, minus, number_of}

-- the bytes are digits that spell the number
Spells : ℕ → List ℕ → Type 0
Spells n [] = ⊥
Spells n (b ∷ bs) = (is_digit b ≡ true) × (digits_after 0 (b ∷ bs) ≡ Some n)

digit_ok : (q : ℕ) → q < 10 → is_digit (48 + q) ≡ true
digit_ok q le = and_from _ _ (le-leb 48 (48 + q) (omega arith)) (le-leb (48 + q) 57 (omega arith))

one_digit : (n : ℕ) → n < 10 → Spells n ((48 + n) ∷ [])
unfolding Spells
one_digit n lt = (digit_ok n lt, ap (λ (t : Bool). cond t (Some (0 * 10 + (48 + n - 48))) None) (digit_ok n lt) ∙ ap Some (omega arith))

-- a digit more
more_after : (k m c : ℕ) (xs : List ℕ) → is_digit c ≡ true → digits_after k xs ≡ Some m → digits_after k (xs ++ c ∷ []) ≡ Some (m * 10 + (c - 48))
more_after k m c [] digit e = ap (λ (t : Bool). cond t (Some (k * 10 + (c - 48))) None) digit ∙ ap (λ (n : ℕ). Some (n * 10 + (c - 48))) (let f : k ≡ m = cc in f)
more_after k m c (x ∷ xs) digit e = by (is_digit x) (more_after (k * 10 + (x - 48)) m c xs digit) e
  where
    by : (t : Bool) → (digits_after (k * 10 + (x - 48)) xs ≡ Some m → digits_after (k * 10 + (x - 48)) (xs ++ c ∷ []) ≡ Some (m * 10 + (c - 48)))
        → cond t (digits_after (k * 10 + (x - 48)) xs) None ≡ Some m → cond t (digits_after (k * 10 + (x - 48)) (xs ++ c ∷ [])) None ≡ Some (m * 10 + (c - 48))
    by true rest h = rest h
    by false rest h = cc

more_digits : (n : ℕ) (ds : List ℕ) → 10 ≤ n → Spells (n / 10) ds → Spells n (ds ++ (48 + n % 10) ∷ [])
unfolding Spells
more_digits n [] le h = absurd h
more_digits n (b ∷ bs) le h =
    (h.0, more_after 0 (n / 10) (48 + n % 10) (b ∷ bs) (digit_ok (n % 10) (omega arith)) h.1 ∙ ap Some (let f : n / 10 * 10 + (48 + n % 10 - 48) ≡ n = omega arith in f))

decimal_spells : (n : ℕ) → n < 10 ^ 64 → Spells n (decimal n)
decimal_spells n lt = decimal_by_steps_wide Spells one_digit more_digits n lt

digits_read : (n : ℕ) (ds : List ℕ) → Spells n ds → digits_of ds ≡ Some n
unfolding Spells
digits_read n [] h = absurd h
digits_read n (b ∷ bs) h = h.1

no_sign : (b s : ℕ) → is_digit b ≡ true → s < 48 → (b == s) ≡ false
no_sign b s digit lt = let p = and_parts (nat_le 48 b) _ digit in let h = leb-true 48 b p.0 in ne_eqb b s (λ e. absurd (omega arith))

unsigned_read : (n : ℕ) (ds : List ℕ) → Spells n ds → number_of ds ≡ Some (pos n)
unfolding Spells
unsigned_read n [] h = absurd h
unsigned_read n (b ∷ bs) h =
    ap (λ (t : Bool). cond t (option_map minus (digits_of bs)) (cond (b == 43) (option_map pos (digits_of bs)) (option_map pos (digits_of (b ∷ bs))))) (no_sign b 45 h.0 (omega arith))
    ∙ ap (λ (t : Bool). cond t (option_map pos (digits_of bs)) (option_map pos (digits_of (b ∷ bs)))) (no_sign b 43 h.0 (omega arith))
    ∙ ap (option_map pos) h.1

-- a number's decimal digits spell it
pub number_reads : (z : ℤ) → (n : ℕ) → z ≡ pos n → n < 10 ^ 64 → number_of (signed_decimal z) ≡ Some z
number_reads z n e lt = subst (λ (y : ℤ). number_of (signed_decimal y) ≡ Some y) (sym e) (unsigned_read n (decimal n) (decimal_spells n lt))

pub minus_reads : (z : ℤ) → (n : ℕ) → z ≡ negsuc n → suc n < 10 ^ 64 → number_of (signed_decimal z) ≡ Some z
minus_reads z n e lt =
    subst (λ (y : ℤ). number_of (signed_decimal y) ≡ Some y) (sym e) (ap (option_map minus) (digits_read (suc n) (decimal (suc n)) (decimal_spells (suc n) lt)))

-- digits are not the mark of NULL
not_mark : (n : ℕ) (ds : List ℕ) → Spells n ds → is_word ds null_mark ≡ false
unfolding Spells
not_mark n [] h = absurd h
not_mark n (b ∷ bs) h =
    let p = and_parts (nat_le 48 b) _ h.0 in
    let top = leb-true b 57 p.1 in
    first_differs b bs (ne_eqb b 92 (λ e. absurd (omega arith)))
  where
    first_differs : (b : ℕ) (bs : List ℕ) → (b == 92) ≡ false → is_word (b ∷ bs) null_mark ≡ false
    first_differs b bs e = rw e refl

pub number_no_mark : (z : ℤ) → (n : ℕ) → z ≡ pos n → n < 10 ^ 64 → is_word (signed_decimal z) null_mark ≡ false
number_no_mark z n e lt = subst (λ (y : ℤ). is_word (signed_decimal y) null_mark ≡ false) (sym e) (not_mark n (decimal n) (decimal_spells n lt))

pub minus_no_mark : (z : ℤ) → (n : ℕ) → z ≡ negsuc n → is_word (signed_decimal z) null_mark ≡ false
minus_no_mark z n e = subst (λ (y : ℤ). is_word (signed_decimal y) null_mark ≡ false) (sym e) refl
