-- The footer of a segment: what it tells of each block, and its bytes.
use Rattle.std.specs.Prelude.{◌≡◌, ◌≤ℤ◌, All, Contains, ℕ, ℤ, pos, ◌+◌, ◌-◌, min, List, [], ◌∷◌, ◌++◌, length, Bool as Truth, true, false, ◌&&◌, ◌||◌, ◌==◌, nat_le, int_le, Option, Some, None, slice_get, option_and_then}
use Rattle.std.specs.Int.{int_max, int_min}
use Rattle.std.specs.List.{flat_map, filter_map, list_all}
use Rattle.pk_values.specs.declared.cells.Value.{Value}
use Rattle.pk_values.specs.declared.cells.Value.TheVariants.{Null, Bool, Num, Day, Text}
use Rattle.byteorder.specs.Endian.{big_bytes}
use Rattle.sha2.specs.Sha256.{sha256}
use Rattle.fixed_code.specs.NumberCode.{number_code}
use Rattle.column_page.specs.declared.footers.Span.{Span}
use Rattle.column_page.specs.declared.footers.ColumnMark.{ColumnMark}
use Rattle.column_page.specs.declared.footers.BlockMark.{BlockMark}
use Rattle.column_page.specs.declared.footers.FooterFields.{FooterFields}

-- numbers in four and in eight bytes, the high one first, and a number in the 16 bytes of a LARGEINT
unfoldable pub u32_bytes : ℕ → List ℕ
u32_bytes n = big_bytes 4 n

unfoldable pub u64_bytes : ℕ → List ℕ
u64_bytes n = big_bytes 8 n

unfoldable pub wide_bytes : ℤ → List ℕ
wide_bytes z = number_code 16 z

abbrev pub span_bytes : Option Span → List ℕ
span_bytes None = 0 ∷ []
span_bytes (Some s) = 1 ∷ wide_bytes s.least ++ wide_bytes s.greatest

abbrev pub nulls_byte : Truth → ℕ
nulls_byte false = 0
nulls_byte true = 1

-- whether some cell is NULL, and the least and the greatest of the others
abbrev pub mark_bytes : ColumnMark → List ℕ
mark_bytes m = nulls_byte m.nulls ∷ span_bytes m.span

-- where the block stands, its length without its digest, its rows and its column marks
abbrev pub block_bytes : BlockMark → List ℕ
block_bytes b = u64_bytes b.place ++ (u32_bytes b.length ++ (u32_bytes b.rows ++ flat_map mark_bytes b.marks))

-- the numbers of columns, rows and blocks, and each block
abbrev pub footer_fields : FooterFields → List ℕ
footer_fields f = u32_bytes f.columns ++ (u32_bytes f.rows ++ (u32_bytes (length f.blocks) ++ flat_map block_bytes f.blocks))

-- `PKSG`, the form 1, and the fields
abbrev pub footer_body : FooterFields → List ℕ
footer_body f = 80 ∷ 75 ∷ 83 ∷ 71 ∷ 1 ∷ footer_fields f

-- the body and its digest
abbrev pub footer_bytes : FooterFields → List ℕ
footer_bytes f = footer_body f ++ sha256 (footer_body f)

-- the least is not above the greatest
abbrev pub span_rises : Option Span → Truth
span_rises None = true
span_rises (Some s) = int_le s.least s.greatest

-- a block stands at a place and holds 1,024 of the rows that are left, or all of them; it has a mark for each column
abbrev pub block_fits : ℕ → ℕ → ℕ → BlockMark → Truth
block_fits columns at left b =
    (b.place == at) && (nat_le 1 b.rows && (b.rows == min 1024 left && (length b.marks == columns && list_all (λ m. span_rises m.span) b.marks)))

-- the blocks stand without gaps from a place on, each is followed by a digest of 32 bytes, and no rows are left
abbrev pub blocks_fit : ℕ → ℕ → ℕ → List BlockMark → Truth
blocks_fit columns at left [] = left == 0
blocks_fit columns at left (b ∷ bs) = block_fits columns at left b && blocks_fit columns (at + b.length + 32) (left - b.rows) bs

-- 1 to 64 columns and 1 to 65,536 rows in blocks
abbrev pub is_footer : FooterFields → Truth
is_footer f = nat_le 1 f.columns && (nat_le f.columns 64 && (nat_le 1 f.rows && (nat_le f.rows 65536 && (nat_le (length f.blocks) 64 && blocks_fit f.columns 0 f.rows f.blocks))))

abbrev pub mark_at : FooterFields → ℕ → ℕ → Option ColumnMark
mark_at f b column = option_and_then (λ block. slice_get block.marks column) (slice_get f.blocks b)

abbrev pub span_in : Option ColumnMark → Option Span
span_in None = None
span_in (Some m) = m.span

abbrev pub nulls_in : Option ColumnMark → Truth
nulls_in None = true
nulls_in (Some m) = m.nulls

-- ---- the marks of a block's cells

-- the number of a cell, if it has one: a BOOLEAN is 0 or 1, and a DATE is its day
abbrev pub cell_number : Value → Option ℤ
cell_number Null = None
cell_number (Bool false) = Some (pos 0)
cell_number (Bool true) = Some (pos 1)
cell_number (Num n) = Some n
cell_number (Day d) = Some d
cell_number (Text t) = None

-- the least and the greatest with one number more
abbrev pub with_number : Option ℤ → Option Span → Option Span
with_number None span = span
with_number (Some z) None = Some (record { least = z; greatest = z })
with_number (Some z) (Some s) = Some (record { least = int_min z s.least; greatest = int_max z s.greatest })

abbrev pub is_null : Value → Truth
is_null Null = true
is_null (Bool b) = false
is_null (Num n) = false
is_null (Day d) = false
is_null (Text t) = false

-- the mark with one cell more
abbrev pub with_cell : Value → ColumnMark → ColumnMark
with_cell v m = record { nulls = is_null v || m.nulls; span = with_number (cell_number v) m.span }

-- whether some cell is NULL, and the least and the greatest number among the cells
abbrev pub mark_of : List Value → ColumnMark
mark_of [] = record { nulls = false; span = None }
mark_of (v ∷ cells) = with_cell v (mark_of cells)

-- the numbers of cells, in their order
abbrev pub numbers : List Value → List ℤ
numbers cells = filter_map cell_number cells

-- the least and the greatest of some numbers
pub record Bounds (zs : List ℤ) (s : Span) : Type 0 where
  pub least_is_below : All (λ z. s.least ≤ℤ z) zs
  pub greatest_is_above : All (λ z. z ≤ℤ s.greatest) zs
  pub least_is_one : Contains zs s.least
  pub greatest_is_one : Contains zs s.greatest

-- the bounds of the numbers, or None where there are no numbers
abbrev pub IsSpanOf : List ℤ → Option Span → Type 0
IsSpanOf zs None = zs ≡ []
IsSpanOf zs (Some s) = Bounds zs s
