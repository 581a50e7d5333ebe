-- The year, the month and the place in it of a day, and that the text of a day reads back.
use Rattle.std.proofs.Common.{◌≡◌, sym, ap, ap₂, subst, ◌∙◌, ℕ, zero, suc, ◌+◌, ◌-◌, ◌*◌, ◌/◌, ◌%◌, ◌<◌, ◌≤◌, Bool, true, false, cond, Some, None, inl, inr, arith}
use Rattle.std.specs.Prelude.{ℤ, pos, ◌-ℤ◌, ◌≤ℤ◌, ◌<ℤ◌, int_le, unsigned_abs}
use Rattle.std.proofs.lemmas.Bool.{and_from, le-leb, cases_lt}
use borrow.Author.Differences.{up, down, true_is_le, false_is_le}
use Rattle.jiff_core.specs.Calendar.{IsCivilDate, day_count, days_from_civil}
use Rattle.jiff_core.specs.declared.civil.date.Date.{Date}
use Rattle.jiff_core.specs.Date.{epoch_day}
use Rattle.jiff_core.proofs.CalendarLemmas.{days_from_civil-day_count, day_count-lt_year, day_count-lt_month, day_count-day, days_in_month_bounds}
use Rattle.jiff_core.proofs.SignedLemmas.{one_part, signed_arith}
use Rattle.cell_text.specs.Days.{civil_day, date_spelling, date_text, day_number, day_of, day_of_month, exists_date, is_digit, last_begun, month_of, two_at, year_of}
use Rattle.cell_text.proofs.DayLemmas.{civil_from, exists_from, not_before_in_year, year_from}

-- day numbers lie as the counts of days do
counted : (y m d : ℕ) → up (day_number y m d) + 3652425 ≡ down (day_number y m d) + day_count (pos y) m d
counted y m d = let count = days_from_civil-day_count (pos y) m d in omega (arith, signed_arith)

-- the last number that begins by the day, where all after it begin later
last_is : (start : ℕ → ℤ) (day : ℤ) (n top : ℕ) → n ≤ top → (0 < n → int_le (start n) day ≡ true) → ((k : ℕ) → n < k → k ≤ top → int_le (start k) day ≡ false) → last_begun start day top ≡ n
unfolding last_begun
last_is start day n zero le begun later = omega arith
last_is start day n (suc t) le begun later = elim (cases_lt n (suc t)) [
  | inl lt ↦ ap (λ (b : Bool). cond b (suc t) (last_begun start day t)) (later (suc t) lt (omega arith))
      ∙ last_is start day n t (omega arith) begun (λ k after within. later k after (omega arith))
  | inr ge ↦ let same : n ≡ suc t = omega arith in
      ap (λ (b : Bool). cond b (suc t) (last_begun start day t)) (subst (λ (k : ℕ). int_le (start k) day ≡ true) same (begun (omega arith))) ∙ sym same
]

record IsDateOf (day : ℤ) (y m d : ℕ) : Type 0 where
  within : y ≤ 9999
  exists : exists_date y m d ≡ true
  number : day_number y m d ≡ day

year_is : (day : ℤ) (y m d : ℕ) → IsDateOf day y m d → year_of day ≡ y
year_is day y m d is =
    let civil = civil_from y m d is.within is.exists in
    last_is (λ k. day_number k 1 1) day y 9999 is.within
    (λ some. sym (true_is_le (day_number y 1 1) day
    (let e = is.number in let a = counted y 1 1 in let b = counted y m d in let c = not_before_in_year y m d civil in
    let f : up (day_number y m d) + down day ≡ up day + down (day_number y m d) = ap₂ (λ (p q : ℤ). up p + down q) e (sym e) in
    omega arith)))
    (λ k after top. sym (false_is_le (day_number k 1 1) day
    (let e = is.number in let a = counted k 1 1 in let b = counted y m d in
    let earlier : pos y <ℤ pos k = omega (arith, signed_arith) in
    let c = day_count-lt_year (pos y) m d (pos k) 1 1 civil (omega arith) earlier in
    let f : up (day_number y m d) + down day ≡ up day + down (day_number y m d) = ap₂ (λ (p q : ℤ). up p + down q) e (sym e) in
    omega arith)))

month_is : (day : ℤ) (y m d : ℕ) → IsDateOf day y m d → last_begun (λ k. day_number y k 1) day 12 ≡ m
month_is day y m d is =
    let civil = civil_from y m d is.within is.exists in
    let months = civil.1.1 in
    last_is (λ k. day_number y k 1) day m 12 months
    (λ some. sym (true_is_le (day_number y m 1) day
    (let e = is.number in let a = counted y m 1 in let b = counted y m d in
    let one = civil.2.0 in
    let c = day_count-day (pos y) m d 1 one (omega arith) in
    let f : up (day_number y m d) + down day ≡ up day + down (day_number y m d) = ap₂ (λ (p q : ℤ). up p + down q) e (sym e) in
    omega arith)))
    (λ k after top. sym (false_is_le (day_number y k 1) day
    (let e = is.number in let a = counted y k 1 in let b = counted y m d in
    let c = day_count-lt_month (pos y) m d k 1 civil (omega arith) after in
    let f : up (day_number y m d) + down day ≡ up day + down (day_number y m d) = ap₂ (λ (p q : ℤ). up p + down q) e (sym e) in
    omega arith)))

place_is : (day : ℤ) (y m d : ℕ) → IsDateOf day y m d → suc (unsigned_abs (day -ℤ day_number y m 1)) ≡ d
place_is day y m d is =
    let civil = civil_from y m d is.within is.exists in
    let one = civil.2.0 in
    let e = is.number in let a = counted y m 1 in let b = counted y m d in
    let c = day_count-day (pos y) m d 1 one (omega arith) in
    let f : up (day_number y m d) + down day ≡ up day + down (day_number y m d) = ap₂ (λ (p q : ℤ). up p + down q) e (sym e) in
    let g = one_part (day -ℤ day_number y m 1) in
    omega (arith, signed_arith)

-- the parts of a day are those of the date that has it
pub record HasParts (day : ℤ) (y m d : ℕ) : Type 0 where
  pub year : y ≡ year_of day
  pub month : m ≡ month_of day
  pub place : d ≡ day_of_month day

parts_are : (day : ℤ) (y m d : ℕ) → IsDateOf day y m d → HasParts day y m d
parts_are day y m d is =
    let ye : year_of day ≡ y = year_is day y m d is in
    let me : month_of day ≡ m = ap (λ (n : ℕ). last_begun (λ k. day_number n k 1) day 12) ye ∙ month_is day y m d is in
    let de : day_of_month day ≡ d = ap₂ (λ (n k : ℕ). suc (unsigned_abs (day -ℤ day_number n k 1))) ye me ∙ place_is day y m d is in
    record { year = sym ye; month = sym me; place = sym de }

date_is : (date : Date) (day : ℤ) → pos 0 ≤ℤ day → epoch_day date ≡ day -ℤ pos 719528 → (y : ℕ) × (date.year ≡ pos y) × IsDateOf day y date.month date.day
date_is date day low e =
    let civil : IsCivilDate date.year date.month date.day = (date.year_in, date.month_in, date.day_in) in
    let y = year_from date.year date.month date.day day civil low e in
    let in_month : IsCivilDate (pos y.0) date.month date.day = subst (λ (z : ℤ). IsCivilDate z date.month date.day) y.1 civil in
    let same : days_from_civil (pos y.0) date.month date.day ≡ day -ℤ pos 719528 = subst (λ (z : ℤ). days_from_civil z date.month date.day ≡ day -ℤ pos 719528) y.1 e in
    let within = in_month.0 in (
      y.0,
      y.1,
      record {
        within = omega (arith, signed_arith);
        exists = exists_from y.0 date.month date.day in_month.1 in_month.2;
        number = omega (arith, signed_arith);
      },
    )

pub year_part : (date : Date) (day : ℤ) → pos 0 ≤ℤ day → epoch_day date ≡ day -ℤ pos 719528 → date.year ≡ pos (year_of day)
year_part date day low e = let p = date_is date day low e in p.1 ∙ ap pos (parts_are day p.0 date.month date.day p.2).year

pub month_part : (date : Date) (day : ℤ) → pos 0 ≤ℤ day → epoch_day date ≡ day -ℤ pos 719528 → date.month ≡ month_of day
month_part date day low e = let p = date_is date day low e in (parts_are day p.0 date.month date.day p.2).month

pub place_part : (date : Date) (day : ℤ) → pos 0 ≤ℤ day → epoch_day date ≡ day -ℤ pos 719528 → date.day ≡ day_of_month day
place_part date day low e = let p = date_is date day low e in (parts_are day p.0 date.month date.day p.2).place

-- ---- reading back

digit_ok : (q : ℕ) → q ≤ 9 → is_digit (48 + q) ≡ true
digit_ok q le = and_from _ _ (le-leb 48 (48 + q) (omega arith)) (le-leb (48 + q) 57 (omega arith))

two_ok : (n : ℕ) → n ≤ 99 → (is_digit (48 + n / 10) ≡ true) × (is_digit (48 + n % 10) ≡ true) × (10 * (48 + n / 10 - 48) + (48 + n % 10 - 48) ≡ n)
two_ok n le = (digit_ok (n / 10) (omega arith), digit_ok (n % 10) (omega arith), omega arith)

spelling_reads : (y m d : ℕ) → y ≤ 9999 → m ≤ 99 → d ≤ 99 → day_of (date_spelling y m d) ≡ civil_day y m d
spelling_reads y m d year month day =
    let a = two_ok (y / 100) (omega arith) in
    let b = two_ok (y % 100) (omega arith) in
    let c = two_ok m month in
    let e = two_ok d day in
    let ae : two_at (date_spelling y m d) 0 ≡ y / 100 = a.2 in
    let be : two_at (date_spelling y m d) 2 ≡ y % 100 = b.2 in
    let ce : two_at (date_spelling y m d) 5 ≡ m = c.2 in
    let de : two_at (date_spelling y m d) 8 ≡ d = e.2 in
    let ye : 100 * two_at (date_spelling y m d) 0 + two_at (date_spelling y m d) 2 ≡ y = omega arith in
    rw (a.0, a.1, b.0, b.1, c.0, c.1, e.0, e.1)
    (ap (λ (n : ℕ). civil_day n (two_at (date_spelling y m d) 5) (two_at (date_spelling y m d) 8)) ye ∙ ap₂ (λ (n k : ℕ). civil_day y n k) ce de)

reads_date : (day : ℤ) (y m d : ℕ) → IsDateOf day y m d → day_of (date_spelling y m d) ≡ Some day
reads_date day y m d is =
    let civil = civil_from y m d is.within is.exists in
    let months = civil.1.1 in
    let days = civil.2.1 in
    let long = (days_in_month_bounds (pos y) m).0 in
    spelling_reads y m d is.within (omega arith) (omega arith) ∙ ap (λ (t : Bool). cond t (Some (day_number y m d)) None) is.exists ∙ ap Some is.number

pub text_reads : (date : Date) (day : ℤ) → pos 0 ≤ℤ day → epoch_day date ≡ day -ℤ pos 719528 → day_of (date_text day) ≡ Some day
text_reads date day low e =
    let p = date_is date day low e in
    let parts = parts_are day p.0 date.month date.day p.2 in
    ap day_of (sym (ap (λ (n : ℕ). date_spelling n date.month date.day) parts.year ∙ ap₂ (λ (n k : ℕ). date_spelling (year_of day) n k) parts.month parts.place))
    ∙ reads_date day p.0 date.month date.day p.2
