-- Days of the Gregorian calendar, counted from 0000-01-01, and their texts.
use Rattle.std.specs.Prelude.{ℕ, zero, suc, ◌+◌, ◌*◌, ◌-◌, ◌/◌, ◌%◌, ◌&&◌, ◌==◌, ℤ, pos, ◌+ℤ◌, ◌-ℤ◌, int_le, unsigned_abs, Bool, nat_le, if◌then◌else◌, List, [], ◌∷◌, ◌++◌, length, slice_index, Option, Some, None}
use Rattle.jiff_core.specs.Calendar.{days_from_civil, days_in_month}

-- the calendar has this date: a month from 1 to 12, and a day of that month in that year
abbrev pub exists_date : ℕ → ℕ → ℕ → Bool
exists_date y m d = nat_le 1 m && (nat_le m 12 && (nat_le 1 d && nat_le d (days_in_month (pos y) m)))

-- how many days lie between 0000-01-01 and the date; 1970-01-01 is 719528
abbrev pub day_number : ℕ → ℕ → ℕ → ℤ
day_number y m d = days_from_civil (pos y) m d +ℤ pos 719528

-- the day of a date that the calendar has
abbrev pub civil_day : ℕ → ℕ → ℕ → Option ℤ
civil_day y m d = if exists_date y m d then Some (day_number y m d) else None

-- ---- reading

abbrev pub is_digit : ℕ → Bool
is_digit b = nat_le 48 b && nat_le b 57

abbrev pub digit_at : List ℕ → ℕ → ℕ
digit_at bs i = slice_index bs i - 48

-- two digits, from a place on
abbrev pub are_two : List ℕ → ℕ → Bool
are_two bs i = is_digit (slice_index bs i) && is_digit (slice_index bs (i + 1))

abbrev pub two_at : List ℕ → ℕ → ℕ
two_at bs i = 10 * digit_at bs i + digit_at bs (i + 1)

-- four digits, a hyphen, two digits, a hyphen and two digits
abbrev pub has_date_form : List ℕ → Bool
has_date_form bs = (length bs == 10) && (are_two bs 0 && (are_two bs 2 && ((slice_index bs 4 == 45) && (are_two bs 5 && ((slice_index bs 7 == 45) && are_two bs 8)))))

-- the day of a text `YYYY-MM-DD`, where the calendar has it
abbrev pub day_of : List ℕ → Option ℤ
day_of bs = if has_date_form bs then civil_day (100 * two_at bs 0 + two_at bs 2) (two_at bs 5) (two_at bs 8) else None

-- ---- writing

-- the last number up to n, but for 0, that begins by the day
unfoldable pub last_begun : (ℕ → ℤ) → ℤ → ℕ → ℕ
last_begun start day zero = zero
last_begun start day (suc n) = if int_le (start (suc n)) day then suc n else last_begun start day n

-- the year of a day is the last one whose first day is not after it, and so is the month of that year
abbrev pub year_of : ℤ → ℕ
year_of day = last_begun (λ y. day_number y 1 1) day 9999

abbrev pub month_of : ℤ → ℕ
month_of day = last_begun (λ m. day_number (year_of day) m 1) day 12

-- the place of a day in its month, from 1
abbrev pub day_of_month : ℤ → ℕ
day_of_month day = suc (unsigned_abs (day -ℤ day_number (year_of day) (month_of day) 1))

-- a number below 100 in two decimal digits
abbrev pub two : ℕ → List ℕ
two n = (48 + n / 10) ∷ (48 + n % 10) ∷ []

abbrev pub date_spelling : ℕ → ℕ → ℕ → List ℕ
date_spelling y m d = two (y / 100) ++ two (y % 100) ++ 45 ∷ [] ++ two m ++ 45 ∷ [] ++ two d

-- the text `YYYY-MM-DD` of a day
abbrev pub date_text : ℤ → List ℕ
date_text day = date_spelling (year_of day) (month_of day) (day_of_month day)
