-- What makes a footer one, part by part, and how long it can be.
use Rattle.std.proofs.Common.{◌≡◌, ℕ, ◌+◌, ◌-◌, ◌*◌, ◌≤◌, min, List, [], ◌∷◌, ◌++◌, true, Option, Some, None, length, arith, length-append, ◌&&◌, ◌==◌, nat_le}
use Rattle.std.specs.List.{flat_map, list_all}
use Rattle.std.proofs.lemmas.Bool.{and_parts, leb-true}
use Rattle.sha2.specs.Sha256.{sha256}
use Rattle.sha2.proofs.Facts256.{length-sha256}
use Rattle.column_page.specs.Footers.{block_bytes, block_fits, blocks_fit, footer_body, footer_bytes, is_footer, mark_bytes, span_bytes, span_rises, u32_bytes, u64_bytes, wide_bytes}
use Rattle.column_page.specs.declared.footers.BlockMark.{BlockMark}
use Rattle.column_page.specs.declared.footers.ColumnMark.{ColumnMark}
use Rattle.column_page.specs.declared.footers.FooterFields.{FooterFields}
use Rattle.column_page.specs.declared.footers.Span.{Span}
use Rattle.column_page.proofs.Lengths.{length-u32, length-u64, length-wide}
use borrow.Author.Tests.{eqb-true}

-- ---- parts

pub record BlockParts (columns at left : ℕ) (b : BlockMark) : Type 0 where
  pub place : b.place ≡ at
  pub some_rows : 1 ≤ b.rows
  pub rows : b.rows ≡ min 1024 left
  pub marks : length b.marks ≡ columns

pub block_parts : (columns at left : ℕ) (b : BlockMark) → block_fits columns at left b ≡ true → BlockParts columns at left b
block_parts columns at left b h =
    let rise = list_all (λ m. span_rises m.span) b.marks in
    let d = (length b.marks == columns) && rise in
    let c = (b.rows == min 1024 left) && d in
    let e = nat_le 1 b.rows && c in
    let p1 = and_parts (b.place == at) e h in
    let p2 = and_parts (nat_le 1 b.rows) c p1.1 in
    let p3 = and_parts (b.rows == min 1024 left) d p2.1 in
    let p4 = and_parts (length b.marks == columns) rise p3.1 in
    record {
      place = eqb-true b.place at p1.0;
      some_rows = leb-true 1 b.rows p2.0;
      rows = eqb-true b.rows (min 1024 left) p3.0;
      marks = eqb-true (length b.marks) columns p4.0;
    }

pub record FooterParts (f : FooterFields) : Type 0 where
  pub some_columns : 1 ≤ f.columns
  pub few_columns : f.columns ≤ 64
  pub some_rows : 1 ≤ f.rows
  pub few_rows : f.rows ≤ 65536
  pub few_blocks : length f.blocks ≤ 64
  pub fit : blocks_fit f.columns 0 f.rows f.blocks ≡ true

pub footer_parts : (f : FooterFields) → is_footer f ≡ true → FooterParts f
footer_parts f h =
    let fit = blocks_fit f.columns 0 f.rows f.blocks in
    let e = nat_le (length f.blocks) 64 && fit in
    let d = nat_le f.rows 65536 && e in
    let c = nat_le 1 f.rows && d in
    let b = nat_le f.columns 64 && c in
    let p1 = and_parts (nat_le 1 f.columns) b h in
    let p2 = and_parts (nat_le f.columns 64) c p1.1 in
    let p3 = and_parts (nat_le 1 f.rows) d p2.1 in
    let p4 = and_parts (nat_le f.rows 65536) e p3.1 in
    let p5 = and_parts (nat_le (length f.blocks) 64) fit p4.1 in
    record {
      some_columns = leb-true 1 f.columns p1.0;
      few_columns = leb-true f.columns 64 p2.0;
      some_rows = leb-true 1 f.rows p3.0;
      few_rows = leb-true f.rows 65536 p4.0;
      few_blocks = leb-true (length f.blocks) 64 p5.0;
      fit = p5.1;
    }

-- ---- lengths

length-span : (s : Option Span) → length (span_bytes s) ≤ 33
length-span None = omega arith
length-span (Some s) = omega (arith, length-append (wide_bytes s.least) (wide_bytes s.greatest), length-wide s.least, length-wide s.greatest)

length-marks : (ms : List ColumnMark) → length (flat_map mark_bytes ms) ≤ length ms * 34
length-marks [] = omega arith
length-marks (m ∷ ms) = omega (arith, length-append (mark_bytes m) (flat_map mark_bytes ms), length-span m.span, length-marks ms)

length-block : (b : BlockMark) → length (block_bytes b) ≤ 16 + length b.marks * 34
length-block b =
    let after_rows = flat_map mark_bytes b.marks in
    let after_length = u32_bytes b.rows ++ after_rows in
    omega (
      arith,
      length-append (u64_bytes b.place) (u32_bytes b.length ++ after_length),
      length-append (u32_bytes b.length) after_length,
      length-append (u32_bytes b.rows) after_rows,
      length-u64 b.place,
      length-u32 b.length,
      length-u32 b.rows,
      length-marks b.marks,
    )

length-blocks : (columns at left : ℕ) (bs : List BlockMark) → blocks_fit columns at left bs ≡ true → columns ≤ 64 → length (flat_map block_bytes bs) ≤ length bs * 2192
length-blocks columns at left [] h le = omega arith
length-blocks columns at left (b ∷ bs) h le =
    let parts = and_parts (block_fits columns at left b) (blocks_fit columns (at + b.length + 32) (left - b.rows) bs) h in
    let wide = (block_parts columns at left b parts.0).marks in
    omega (arith, length-append (block_bytes b) (flat_map block_bytes bs), length-block b, length-blocks columns (at + b.length + 32) (left - b.rows) bs parts.1 le)

-- a footer and its digest: 64 blocks of 64 columns, each mark with 34 bytes
pub length-footer : (f : FooterFields) → is_footer f ≡ true → length (footer_body f) + 32 ≤ 140337
length-footer f h =
    let parts = footer_parts f h in
    let blocks = flat_map block_bytes f.blocks in
    let after_rows = u32_bytes (length f.blocks) ++ blocks in
    let long = length-blocks f.columns 0 f.rows f.blocks parts.fit parts.few_columns in
    omega (
      arith,
      parts.few_blocks,
      length-append (u32_bytes f.columns) (u32_bytes f.rows ++ after_rows),
      length-append (u32_bytes f.rows) after_rows,
      length-append (u32_bytes (length f.blocks)) blocks,
      length-u32 f.columns,
      length-u32 f.rows,
      length-u32 (length f.blocks),
    )

pub footer_short : (f : FooterFields) → is_footer f ≡ true → length (footer_bytes f) ≤ 140337
footer_short f h = omega (arith, length-footer f h, length-append (footer_body f) (sha256 (footer_body f)), length-sha256 (footer_body f))
