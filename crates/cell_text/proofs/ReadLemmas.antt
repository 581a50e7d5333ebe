-- What the cells of the kinds read as.
use Rattle.std.proofs.Common.{◌≡◌, refl, sym, ap, ◌∙◌, ℕ, List, Option, Some, None, Bool, true, false, cond, subst}
use Rattle.std.specs.Prelude.{ℤ, option_map, option_and_then, Result}
use Rattle.pk_values.specs.declared.cells.Kind.{Kind}
use Rattle.pk_values.specs.declared.cells.Kind.TheVariants.{TinyInt, SmallInt, Int, BigInt, LargeInt, Date}
use Rattle.pk_values.specs.declared.cells.Value.{Value}
use Rattle.pk_values.specs.declared.cells.Value.TheVariants.{Null, Num, Day}
use Rattle.pk_values.specs.Fits.{fits_kind, in_range, null_mark}
use Rattle.cell_text.specs.Cells.{cell_of, if_of_kind, is_word, number_of, spelled}
use Rattle.cell_text.specs.Readings.{IsReading, greatest, if_in_bytes, number_in}
use Rattle.cell_text.specs.Days.{day_of}
use Rattle.cell_text.specs.declared.faults.CellFault.{CellFault}
use Rattle.cell_text.proofs.DayLemmas.{in_days, keep_days, kept_day}

-- where the bytes are not the mark of NULL, the cell is the value that they spell
pub not_null : (kind : Kind) (bytes : List ℕ) → is_word bytes null_mark ≡ false → cell_of kind bytes ≡ option_and_then (if_of_kind kind) (spelled kind bytes)
not_null kind bytes e = ap (λ (t : Bool). cond t (Some Null) (option_and_then (if_of_kind kind) (spelled kind bytes))) e

by_test : (t : Bool) (z : ℤ) → cond t (Some (Num z)) None ≡ option_map Num (cond t (Some z) None)
by_test true z = refl
by_test false z = refl

kept : (kind : Kind) (w : ℕ) (o : Option ℤ) → ((z : ℤ) → fits_kind kind (Num z) ≡ in_range (greatest w) z) → option_and_then (if_of_kind kind) (option_map Num o) ≡ option_map Num (option_and_then (if_in_bytes w) o)
kept kind w None same = refl
kept kind w (Some z) same = ap (λ (t : Bool). cond t (Some (Num z)) None) (same z) ∙ by_test (in_range (greatest w) z) z

-- the cell of a kind of numbers
pub number_cell : (kind : Kind) (w : ℕ) (bytes : List ℕ) → is_word bytes null_mark ≡ false → ((z : ℤ) → fits_kind kind (Num z) ≡ in_range (greatest w) z) → spelled kind bytes ≡ option_map Num (number_of bytes)
    → cell_of kind bytes ≡ option_map Num (number_in w bytes)
number_cell kind w bytes e same spells =
    not_null kind bytes e ∙ ap (option_and_then (if_of_kind kind)) spells ∙ kept kind w (number_of bytes) same

day_by_test : (o : Option ℤ) → option_and_then (if_of_kind Date) (option_map Day o) ≡ option_map Day (keep_days o)
day_by_test None = refl
day_by_test (Some z) = by (in_days z)
  where
    by : (t : Bool) → cond t (Some (Day z)) None ≡ option_map Day (cond t (Some z) None)
    by true = refl
    by false = refl

-- the cell of a date
pub day_cell : (bytes : List ℕ) → is_word bytes null_mark ≡ false → cell_of Date bytes ≡ option_map Day (day_of bytes)
day_cell bytes e = not_null Date bytes e ∙ day_by_test (day_of bytes) ∙ ap (option_map Day) (kept_day bytes)

-- ---- what `read_value` answers for a kind

along : (kind own : Kind) (bytes : List ℕ) (o : Option Value) (r : Result Value CellFault) → kind ≡ own → cell_of own bytes ≡ o → IsReading o r → IsReading (cell_of kind bytes) r
along kind own bytes o r e same h = subst (λ (p : Option Value). IsReading p r) (sym (ap (λ (k : Kind). cell_of k bytes) e ∙ same)) h

pub reads-TinyInt : (kind : Kind) (bytes : List ℕ) (r : Result Value CellFault) → kind ≡ TinyInt → is_word bytes null_mark ≡ false → IsReading (option_map Num (number_in 1 bytes)) r → IsReading (cell_of kind bytes) r
reads-TinyInt kind bytes r e n h = along kind TinyInt bytes (option_map Num (number_in 1 bytes)) r e (number_cell TinyInt 1 bytes n (λ z. refl) refl) h

pub reads-SmallInt : (kind : Kind) (bytes : List ℕ) (r : Result Value CellFault) → kind ≡ SmallInt → is_word bytes null_mark ≡ false → IsReading (option_map Num (number_in 2 bytes)) r → IsReading (cell_of kind bytes) r
reads-SmallInt kind bytes r e n h = along kind SmallInt bytes (option_map Num (number_in 2 bytes)) r e (number_cell SmallInt 2 bytes n (λ z. refl) refl) h

pub reads-Int : (kind : Kind) (bytes : List ℕ) (r : Result Value CellFault) → kind ≡ Int → is_word bytes null_mark ≡ false → IsReading (option_map Num (number_in 4 bytes)) r → IsReading (cell_of kind bytes) r
reads-Int kind bytes r e n h = along kind Int bytes (option_map Num (number_in 4 bytes)) r e (number_cell Int 4 bytes n (λ z. refl) refl) h

pub reads-BigInt : (kind : Kind) (bytes : List ℕ) (r : Result Value CellFault) → kind ≡ BigInt → is_word bytes null_mark ≡ false → IsReading (option_map Num (number_in 8 bytes)) r → IsReading (cell_of kind bytes) r
reads-BigInt kind bytes r e n h = along kind BigInt bytes (option_map Num (number_in 8 bytes)) r e (number_cell BigInt 8 bytes n (λ z. refl) refl) h

pub reads-LargeInt : (kind : Kind) (bytes : List ℕ) (r : Result Value CellFault) → kind ≡ LargeInt → is_word bytes null_mark ≡ false → IsReading (option_map Num (number_in 16 bytes)) r → IsReading (cell_of kind bytes) r
reads-LargeInt kind bytes r e n h = along kind LargeInt bytes (option_map Num (number_in 16 bytes)) r e (number_cell LargeInt 16 bytes n (λ z. refl) refl) h

pub reads-Date : (kind : Kind) (bytes : List ℕ) (r : Result Value CellFault) → kind ≡ Date → is_word bytes null_mark ≡ false → IsReading (option_map Day (day_of bytes)) r → IsReading (cell_of kind bytes) r
reads-Date kind bytes r e n h = along kind Date bytes (option_map Day (day_of bytes)) r e (day_cell bytes n) h
