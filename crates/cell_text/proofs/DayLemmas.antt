-- What `jiff` says of a date, in the words of `Days`.
use Rattle.std.proofs.Common.{◌≡◌, ℕ, ◌+◌, ◌-◌, ◌*◌, ◌==◌, Option, if◌then◌else◌, true, false, Bool, Some, None, List, length, refl, ap, sym, ◌∙◌, ◌≤◌, zero, suc, ◌&&◌, arith, cond}
use Rattle.std.specs.Prelude.{ℤ, pos, ◌+ℤ◌, slice_index, int_le, nat_le}
use Rattle.std.specs.Int.{IsInRange}
use Rattle.std.proofs.lemmas.Bool.{and_from, and_parts, eq-eqb, le-leb, leb-true}
use borrow.Author.Differences.{true_is_le}
use Rattle.std.proofs.Common.{negsuc, ◌-ℤ◌, ◌<ℤ◌, ◌≤ℤ◌}
use Rattle.jiff_core.specs.Calendar.{IsCivilDate, day_count, day_of_year, days_from_civil, days_in_month}
use Rattle.jiff_core.proofs.CalendarLemmas.{day_count-lt_year, days_from_civil-day_count, day_count_bounds, day_count-day_of_year, days_in_month_bounds}
use Rattle.jiff_core.proofs.MarchLemmas.{day_count-early}
use Rattle.jiff_core.proofs.SignedLemmas.{signed_arith}
use Rattle.jiff_core.specs.Date.{epoch_day}
use Rattle.jiff_core.specs.declared.civil.date.Date.{Date}
use Rattle.cell_text.specs.Days.{are_two, civil_day, day_number, day_of, exists_date, has_date_form, is_digit, two_at}

pub exists_from : (y m d : ℕ) → IsInRange 1 12 m → IsInRange 1 (days_in_month (pos y) m) d → exists_date y m d ≡ true
exists_from y m d month day =
    and_from _ _ (le-leb 1 m month.0) (and_from _ _ (le-leb m 12 month.1) (and_from _ _ (le-leb 1 d day.0) (le-leb d (days_in_month (pos y) m) day.1)))

pub day_is : (y m d : ℕ) (date : Date) (e : ℤ) → date.year ≡ pos y → date.month ≡ m → date.day ≡ d → e ≡ epoch_day date → Some (e +ℤ pos 719528) ≡ civil_day y m d
day_is y m d date e ye me de ee =
    let month : IsInRange 1 12 m = rw me at date.month_in in
    let day : IsInRange 1 (days_in_month (pos y) m) d = rw (ye, me, de) at date.day_in in
    let same : epoch_day date ≡ days_from_civil (pos y) m d = rw (ye, me, de) refl in
    rw (exists_from y m d month day) (ap (λ (z : ℤ). Some (z +ℤ pos 719528)) (ee ∙ same))

pub form_from : (bs : List ℕ) → length bs ≡ 10 → are_two bs 0 ≡ true → are_two bs 2 ≡ true → slice_index bs 4 ≡ 45 → are_two bs 5 ≡ true → slice_index bs 7 ≡ 45 → are_two bs 8 ≡ true
    → day_of bs ≡ civil_day (100 * two_at bs 0 + two_at bs 2) (two_at bs 5) (two_at bs 8)
form_from bs len a b h c g d =
    let form : has_date_form bs ≡ true = and_from _ _ (eq-eqb _ 10 len) (and_from _ _ a (and_from _ _ b (and_from _ _ (eq-eqb _ 45 h) (and_from _ _ c (and_from _ _ (eq-eqb _ 45 g) d))))) in
    ap (λ (t : Bool). cond t (civil_day (100 * two_at bs 0 + two_at bs 2) (two_at bs 5) (two_at bs 8)) None) form

some_test : (t : Bool) (n v : ℕ) → Some v ≡ cond t (Some n) None → (t ≡ true) × (v ≡ n)
some_test true n v e = (refl, cc)
some_test false n v e = cc

pub two_from : (bs : List ℕ) (i v : ℕ) → Some v ≡ cond (are_two bs i) (Some (two_at bs i)) None → (are_two bs i ≡ true) × (v ≡ two_at bs i)
two_from bs i v e = some_test (are_two bs i) (two_at bs i) v e

day_count-zero : day_count (pos 0) 1 1 ≡ 3652425
day_count-zero = day_count-early (pos 0) 9999 1 1 refl (omega arith) (omega arith) (omega arith)

-- a day from 0000-01-01 on has a year from 0 on
pub year_from : (y : ℤ) (m d : ℕ) (day : ℤ) → IsCivilDate y m d → pos 0 ≤ℤ day → days_from_civil y m d ≡ day -ℤ pos 719528 → (n : ℕ) × (y ≡ pos n)
year_from (pos n) m d day civil low e = (n, refl)
year_from (negsuc n) m d day civil low e =
    let earlier : negsuc n <ℤ pos 0 = omega (arith, signed_arith) in
    let lt = day_count-lt_year (negsuc n) m d (pos 0) 1 1 civil (omega arith) earlier in
    let count = days_from_civil-day_count (negsuc n) m d in
    let zero_is = day_count-zero in
    absurd (omega (arith, signed_arith))

-- what the test of a date tells
pub civil_from : (y m d : ℕ) → y ≤ 9999 → exists_date y m d ≡ true → IsCivilDate (pos y) m d
civil_from y m d few e =
    let a = and_parts (nat_le 1 m) _ e in
    let b = and_parts (nat_le m 12) _ a.1 in
    let c = and_parts (nat_le 1 d) _ b.1 in
    ((omega (arith, signed_arith), omega (arith, signed_arith)), (leb-true 1 m a.0, leb-true m 12 b.0), (leb-true 1 d c.0, leb-true d (days_in_month (pos y) m) c.1))

-- no date of a year comes before its first day
pub not_before_in_year : (y m d : ℕ) → IsCivilDate (pos y) m d → day_count (pos y) 1 1 ≤ day_count (pos y) m d
not_before_in_year y m d civil =
    let place = day_count-day_of_year (pos y) m d civil.2.0 in
    let first : 1 ≤ day_of_year (pos y) m d = let one = civil.2.0 in omega arith in
    omega arith

-- no date from year 0 on comes before 0000-01-01
not_before : (y m d : ℕ) → IsCivilDate (pos y) m d → day_count (pos 0) 1 1 ≤ day_count (pos y) m d
not_before zero m d civil = not_before_in_year 0 m d civil
not_before (suc y) m d civil =
    let earlier : pos 0 <ℤ pos (suc y) = omega (arith, signed_arith) in
    let jan : IsCivilDate (pos 0) 1 1 = ((omega (arith, signed_arith), omega (arith, signed_arith)), (omega arith, omega arith), (omega arith, omega (arith, days_in_month_bounds (pos 0) 1))) in
    let lt = day_count-lt_year (pos 0) 1 1 (pos (suc y)) m d jan civil.2.0 earlier in
    omega arith

-- a date of the calendar up to year 9999 stands from day 0 to day 3652424
pub in_calendar : (y m d : ℕ) → y ≤ 9999 → exists_date y m d ≡ true → (int_le (pos 0) (day_number y m d) && int_le (day_number y m d) (pos 3652424)) ≡ true
in_calendar y m d few e =
    let civil = civil_from y m d few e in
    let count = days_from_civil-day_count (pos y) m d in
    let bounds = day_count_bounds (pos y) m d civil in
    let start = day_count-zero in
    let after = not_before y m d civil in
    and_from _ _ (sym (true_is_le (pos 0) (day_number y m d) (omega (arith, signed_arith)))) (sym (true_is_le (day_number y m d) (pos 3652424) (omega (arith, signed_arith))))

digit_small : (b : ℕ) → is_digit b ≡ true → b - 48 ≤ 9
digit_small b e = let p = and_parts (nat_le 48 b) _ e in let h = leb-true b 57 p.1 in omega arith

-- two digits are at most 99
two_small : (bs : List ℕ) (i : ℕ) → are_two bs i ≡ true → two_at bs i ≤ 99
two_small bs i e =
    let p = and_parts (is_digit (slice_index bs i)) _ e in
    let a = digit_small (slice_index bs i) p.0 in
    let b = digit_small (slice_index bs (i + 1)) p.1 in
    omega arith

-- the tests of a day are met by what a text reads as
abbrev pub in_days : ℤ → Bool
in_days z = int_le (pos 0) z && int_le z (pos 3652424)

abbrev pub keep_days : Option ℤ → Option ℤ
keep_days None = None
keep_days (Some z) = if in_days z then Some z else None

kept_civil : (y m d : ℕ) → y ≤ 9999 → keep_days (civil_day y m d) ≡ civil_day y m d
kept_civil y m d few = by_test (exists_date y m d) (in_calendar y m d few)
  where
    by_test : (t : Bool) → (t ≡ true → in_days (day_number y m d) ≡ true) → keep_days (cond t (Some (day_number y m d)) None) ≡ cond t (Some (day_number y m d)) None
    by_test true h = ap (λ (t : Bool). cond t (Some (day_number y m d)) None) (h refl)
    by_test false h = refl

-- each day that a text reads as stands from 0000-01-01 to 9999-12-31
pub kept_day : (bs : List ℕ) → keep_days (day_of bs) ≡ day_of bs
kept_day bs = by_form (has_date_form bs) refl
  where
    few : has_date_form bs ≡ true → 100 * two_at bs 0 + two_at bs 2 ≤ 9999
    few e =
        let p = and_parts (length bs == 10) _ e in
        let q = and_parts (are_two bs 0) _ p.1 in
        let r = and_parts (are_two bs 2) _ q.1 in
        let a = two_small bs 0 q.0 in
        let b = two_small bs 2 r.0 in
        omega arith

    by_form : (t : Bool) → has_date_form bs ≡ t → keep_days (cond t (civil_day (100 * two_at bs 0 + two_at bs 2) (two_at bs 5) (two_at bs 8)) None) ≡ cond t (civil_day (100 * two_at bs 0 + two_at bs 2) (two_at bs 5) (two_at bs 8)) None
    by_form true e = kept_civil (100 * two_at bs 0 + two_at bs 2) (two_at bs 5) (two_at bs 8) (few e)
    by_form false e = refl
