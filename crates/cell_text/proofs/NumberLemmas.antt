-- What decimal digits spell.
use Rattle.std.proofs.Common.{◌≡◌, refl, sym, ◌∙◌, ap, ℕ, ◌+◌, ◌-◌, ◌*◌, ◌≤◌, ◌<◌, List, [], ◌∷◌, Option, Some, None, IfSome, Bool, true, false, arith, if◌then◌else◌, length, drop, get_or, suc}
use Rattle.std.specs.Prelude.{option_and_then}
use Rattle.std.proofs.Math.Seq.{drop-cons}
use Rattle.std.proofs.lemmas.Bool.{le-leb, lt-leb}
use Rattle.cell_text.specs.Days.{is_digit}
use Rattle.cell_text.specs.Cells.{digits_after}
use Rattle.cell_text.specs.Readings.{if_at_most}

-- more digits make no number smaller
digits_grow : (n : ℕ) (bs : List ℕ) → IfSome (digits_after n bs) (λ m. n ≤ m)
digits_grow n [] = omega arith
digits_grow n (b ∷ bs) = by_test (is_digit b) (digits_grow (n * 10 + (b - 48)) bs)
  where
    weaker : (o : Option ℕ) → IfSome o (λ m. n * 10 + (b - 48) ≤ m) → IfSome o (λ m. n ≤ m)
    weaker None h = tt
    weaker (Some m) h = omega arith

    by_test : (t : Bool) → IfSome (digits_after (n * 10 + (b - 48)) bs) (λ m. n * 10 + (b - 48) ≤ m) → IfSome (if t then digits_after (n * 10 + (b - 48)) bs else None) (λ m. n ≤ m)
    by_test true h = weaker (digits_after (n * 10 + (b - 48)) bs) h
    by_test false h = tt

above_none : (o : Option ℕ) (most least : ℕ) → most < least → IfSome o (λ m. least ≤ m) → None ≡ option_and_then (if_at_most most) o
above_none None most least lt h = refl
above_none (Some m) most least lt h = let above : most < m = omega arith in rw (lt-leb m most above) refl

-- a number above the limit stays above it
pub above : (n i most : ℕ) (bs : List ℕ) (whole : Option ℕ) → i < length bs → digits_after n (drop i bs) ≡ whole → is_digit (get_or bs i 0) ≡ true
    → most < n * 10 + (get_or bs i 0 - 48) → None ≡ option_and_then (if_at_most most) whole
above n i most bs whole within rest digit over =
    let next : digits_after (n * 10 + (get_or bs i 0 - 48)) (drop (suc i) bs) ≡ whole = sym (ap (λ (t : Bool). if t then digits_after (n * 10 + (get_or bs i 0 - 48)) (drop (suc i) bs) else None) digit) ∙ sym (ap (digits_after n) (drop-cons bs i 0 within)) ∙ rest in
    above_none (digits_after (n * 10 + (get_or bs i 0 - 48)) (drop (suc i) bs)) most (n * 10 + (get_or bs i 0 - 48)) over (digits_grow (n * 10 + (get_or bs i 0 - 48)) (drop (suc i) bs)) ∙ ap (option_and_then (if_at_most most)) next

-- a byte that is no digit ends the reading
pub no_digit : (n i most : ℕ) (bs : List ℕ) (whole : Option ℕ) → i < length bs → digits_after n (drop i bs) ≡ whole → is_digit (get_or bs i 0) ≡ false
    → None ≡ option_and_then (if_at_most most) whole
no_digit n i most bs whole within rest digit =
    let none : None ≡ whole = sym (ap (λ (t : Bool). if t then digits_after (n * 10 + (get_or bs i 0 - 48)) (drop (suc i) bs) else None) digit) ∙ sym (ap (digits_after n) (drop-cons bs i 0 within)) ∙ rest in
    ap (option_and_then (if_at_most most)) none

pub all_read : (n most : ℕ) (whole : Option ℕ) → n ≤ most → Some n ≡ whole → Some n ≡ option_and_then (if_at_most most) whole
all_read n most whole le e = sym (ap (λ (t : Bool). if t then Some n else None) (le-leb n most le)) ∙ ap (option_and_then (if_at_most most)) e
