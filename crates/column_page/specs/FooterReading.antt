-- The numbers of a footer in the ranges of their types, and elements that stand one after the other.
use Rattle.std.specs.Prelude.{◌≡◌, IsTrue, ℕ, ◌<◌, ◌^◌, List, ◌++◌, length, drop, take, All, Option, Some, None, ⊤}
use Rattle.std.specs.List.{flat_map}
use Rattle.fixed_code.specs.NumberCode.{FitsBytes}
use Rattle.column_page.specs.declared.footers.Span.{Span}
use Rattle.column_page.specs.declared.footers.ColumnMark.{ColumnMark}
use Rattle.column_page.specs.declared.footers.BlockMark.{BlockMark}
use Rattle.column_page.specs.declared.footers.FooterFields.{FooterFields}
use Rattle.column_page.specs.Footers.{is_footer}

-- the numbers of a footer are in the ranges of their types
pub record SpanFits (s : Span) : Type 0 where
  pub least : FitsBytes 16 s.least
  pub greatest : FitsBytes 16 s.greatest

abbrev pub SomeSpanFits : Option Span → Type 0
SomeSpanFits None = ⊤
SomeSpanFits (Some s) = SpanFits s

abbrev pub MarkFits : ColumnMark → Type 0
MarkFits m = SomeSpanFits m.span

pub record BlockFits (columns : ℕ) (b : BlockMark) : Type 0 where
  pub place : b.place < 2 ^ 64
  pub length_fits : b.length < 2 ^ 32
  pub rows : b.rows < 2 ^ 32
  pub number : length b.marks ≡ columns
  pub marks : All MarkFits b.marks

-- the same of a whole footer; `is_footer` bounds its numbers of columns, rows and blocks itself
pub record FooterFits (f : FooterFields) : Type 0 where
  pub columns : f.columns < 2 ^ 32
  pub rows : f.rows < 2 ^ 32
  pub number : length f.blocks < 2 ^ 32
  pub blocks : All (BlockFits f.columns) f.blocks

-- what each footer of a segment tells: its blocks stand without gaps and hold its rows, and its numbers are in range
pub record IsSegmentFooter (f : FooterFields) : Type 0 where
  pub is : IsTrue (is_footer f)
  pub fits : FooterFits f

-- ---- elements one after the other

pub record SequenceThen {X : Type 0} (IsOne : X → Type 0) (code : X → List ℕ) (count : ℕ) (bytes : List ℕ) (xs : List X) (rest : List ℕ) : Type 0 where
  pub fit : All IsOne xs
  pub number : length xs ≡ count
  pub joined : flat_map code xs ++ rest ≡ bytes

pub record HaveElements {X : Type 0} (code : X → List ℕ) (values : List X) (k at : ℕ) (bytes : List ℕ) (xs : List X) (rest : List ℕ) : Type 0 where
  pub front : values ≡ take k xs
  pub back : drop at bytes ≡ flat_map code (drop k xs) ++ rest
