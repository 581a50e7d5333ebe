-- The marks of a block: their number, and the ranges of what they tell.
use Rattle.std.proofs.Common.{◌≡◌, ℕ, suc, ◌+◌, List, [], ◌∷◌, length, refl, ap, arith, Bool as Truth, true, false, IsTrue, None, Some}
use Rattle.std.specs.Prelude.{All, ℤ, pos, negsuc, int_le, int_lt, Option, ⊤}
use Rattle.std.specs.Int.{int_max}
use Rattle.std.specs.List.{list_all}
use Rattle.std.proofs.lemmas.Bool.{and_from, cond_both}
use Rattle.std.proofs.lemmas.Int.{ints}
use Rattle.std.proofs.lemmas.List.Elements.{All-cons, All-head, All-tail}
use Rattle.fixed_code.specs.NumberCode.{FitsBytes}
use Rattle.pk_values.specs.Fits.{fits}
use Rattle.pk_values.specs.Schemas.{is_kind}
use Rattle.pk_values.specs.declared.cells.Kind.{Kind}
use Rattle.pk_values.specs.declared.cells.Kind.TheVariants.{Boolean, TinyInt, SmallInt, Int, BigInt, LargeInt, Date, Varchar}
use Rattle.pk_values.specs.declared.cells.Value.{Value}
use Rattle.pk_values.specs.declared.cells.Value.TheVariants.{Null, Bool, Num, Day, Text}
use Rattle.pk_values.specs.declared.cells.Column.{Column}
use Rattle.column_page.specs.CellBytes.{HasShape}
use Rattle.column_page.specs.Page.{AllFit}
use Rattle.column_page.specs.Footers.{cell_number, mark_of, span_rises, with_number}
use Rattle.column_page.specs.FooterReading.{MarkFits, SomeSpanFits}
use Rattle.column_page.specs.declared.footers.ColumnMark.{ColumnMark}
use Rattle.column_page.specs.declared.footers.Span.{Span}
use Rattle.column_page.proofs.OneCell.{shape_of}
use Rattle.segment_form.specs.Segments.{column_cells, marks_of}
use Rattle.segment_form.proofs.Fitting.{ColumnsFit}

-- ---- ranges

abbrev NumberFits : Option ℤ → Type 0
NumberFits None = ⊤
NumberFits (Some z) = FitsBytes 16 z

wide_one : (z : ℤ) → FitsBytes 1 z → FitsBytes 16 z
wide_one (pos n) h = omega arith
wide_one (negsuc n) h = omega arith

wide_two : (z : ℤ) → FitsBytes 2 z → FitsBytes 16 z
wide_two (pos n) h = omega arith
wide_two (negsuc n) h = omega arith

wide_four : (z : ℤ) → FitsBytes 4 z → FitsBytes 16 z
wide_four (pos n) h = omega arith
wide_four (negsuc n) h = omega arith

wide_eight : (z : ℤ) → FitsBytes 8 z → FitsBytes 16 z
wide_eight (pos n) h = omega arith
wide_eight (negsuc n) h = omega arith

num_fits : (k : Kind) (z : ℤ) → HasShape k (Num z) → FitsBytes 16 z
num_fits Boolean z h = absurd h
num_fits TinyInt z h = wide_one z h
num_fits SmallInt z h = wide_two z h
num_fits Int z h = wide_four z h
num_fits BigInt z h = wide_eight z h
num_fits LargeInt z h = h
num_fits Date z h = absurd h
num_fits (Varchar n) z h = absurd h

day_fits : (k : Kind) (z : ℤ) → HasShape k (Day z) → FitsBytes 16 z
day_fits Boolean z h = absurd h
day_fits TinyInt z h = absurd h
day_fits SmallInt z h = absurd h
day_fits Int z h = absurd h
day_fits BigInt z h = absurd h
day_fits LargeInt z h = absurd h
day_fits Date z h = wide_four z h
day_fits (Varchar n) z h = absurd h

number_fits : (c : Column) (v : Value) → IsTrue (is_kind c.kind) → IsTrue (fits c v) → NumberFits (cell_number v)
number_fits c Null i f = tt
number_fits c (Bool false) i f = omega arith
number_fits c (Bool true) i f = omega arith
number_fits c (Num z) i f = num_fits c.kind z (shape_of c.kind (Num z) i f)
number_fits c (Day z) i f = day_fits c.kind z (shape_of c.kind (Day z) i f)
number_fits c (Text t) i f = tt

with_fits : (number : Option ℤ) (span : Option Span) → NumberFits number → SomeSpanFits span → SomeSpanFits (with_number number span)
with_fits None span h s = s
with_fits (Some z) None h s = record { least = h; greatest = h }
with_fits (Some z) (Some span) h s = record {
  least = cond_both (int_lt span.least z) span.least z (FitsBytes 16) (λ e. s.least) (λ e. h);
  greatest = cond_both (int_lt span.greatest z) z span.greatest (FitsBytes 16) (λ e. h) (λ e. s.greatest);
}

pub mark_fits : (c : Column) (cells : List Value) → IsTrue (is_kind c.kind) → AllFit c cells → MarkFits (mark_of cells)
mark_fits c [] i fit = tt
mark_fits c (v ∷ cells) i fit =
    let P : Value → Type 0 = λ v. IsTrue (fits c v) in
    with_fits (cell_number v) (mark_of cells).span (number_fits c v i (All-head P v cells fit)) (mark_fits c cells i (All-tail P v cells fit))

pub marks_fit : (i : ℕ) (cs : List Column) (rows : List (List Value)) → ColumnsFit i cs rows → All MarkFits (marks_of i cs rows)
marks_fit i [] rows fit = λ k d lt. absurd (omega arith)
marks_fit i (c ∷ cs) rows fit =
    All-cons MarkFits (mark_of (column_cells i rows)) (marks_of (i + 1) cs rows) (mark_fits c (column_cells i rows) fit.0.typed fit.0.fit) (marks_fit (i + 1) cs rows fit.1)

-- ---- order

with_rises : (number : Option ℤ) (span : Option Span) → span_rises span ≡ true → span_rises (with_number number span) ≡ true
with_rises None span h = h
with_rises (Some z) None h = grind (arith, ints)
with_rises (Some z) (Some span) h =
    cond_both (int_lt span.least z) span.least z (λ x. int_le x (int_max z span.greatest) ≡ true)
    (λ e. cond_both (int_lt span.greatest z) z span.greatest (λ y. int_le span.least y ≡ true) (λ f. grind (arith, ints)) (λ f. h))
    (λ e. cond_both (int_lt span.greatest z) z span.greatest (λ y. int_le z y ≡ true) (λ f. grind (arith, ints)) (λ f. grind (arith, ints)))

pub mark_rises : (cells : List Value) → span_rises (mark_of cells).span ≡ true
mark_rises [] = refl
mark_rises (v ∷ cells) = with_rises (cell_number v) (mark_of cells).span (mark_rises cells)

pub marks_rise : (i : ℕ) (cs : List Column) (rows : List (List Value)) → list_all (λ m. span_rises m.span) (marks_of i cs rows) ≡ true
marks_rise i [] rows = refl
marks_rise i (c ∷ cs) rows =
    let p : ColumnMark → Truth = λ m. span_rises m.span in
    and_from (p (mark_of (column_cells i rows))) (list_all p (marks_of (i + 1) cs rows)) (mark_rises (column_cells i rows)) (marks_rise (i + 1) cs rows)

-- ---- number

pub length-marks_of : (i : ℕ) (cs : List Column) (rows : List (List Value)) → length (marks_of i cs rows) ≡ length cs
length-marks_of i [] rows = refl
length-marks_of i (c ∷ cs) rows = ap suc (length-marks_of (i + 1) cs rows)
