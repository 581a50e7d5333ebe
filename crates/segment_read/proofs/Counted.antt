-- How many rows the blocks of a footer have.
use Rattle.std.proofs.Common.{◌≡◌, ℕ, ◌+◌, ◌-◌, ◌<◌, ◌≤◌, min, List, [], ◌∷◌, true, Some, length, drop, get_or, sym, ap, ◌∙◌, arith, slice_get}
use Rattle.std.proofs.lemmas.Bool.{and_parts}
use Rattle.std.proofs.lemmas.List.{drop_all, drop_more}
use Rattle.std.proofs.lemmas.Option.{slice_get-get_or}
use Rattle.column_page.specs.Footers.{block_fits, blocks_fit, is_footer}
use Rattle.column_page.proofs.FooterParts.{block_parts, footer_parts}
use Rattle.column_page.specs.declared.footers.BlockMark.{BlockMark}
use Rattle.column_page.specs.declared.footers.Footer.{Footer}
use Rattle.segment_read.specs.Reads.{OfBlock}
use borrow.Author.Tests.{eqb-true}

-- the rows that some marks tell of
abbrev pub rows_told : List BlockMark → ℕ
rows_told [] = 0
rows_told (m ∷ ms) = m.rows + rows_told ms

all_told : (columns at left : ℕ) (ms : List BlockMark) → blocks_fit columns at left ms ≡ true → rows_told ms ≡ left
all_told columns at left [] h = sym (eqb-true left 0 h)
all_told columns at left (m ∷ ms) h =
    let parts = and_parts (block_fits columns at left m) (blocks_fit columns (at + m.length + 32) (left - m.rows) ms) h in
    let rows = (block_parts columns at left m parts.0).rows in
    let rest = all_told columns (at + m.length + 32) (left - m.rows) ms parts.1 in
    omega arith

-- all rows of a footer are left before its first block
pub none_counted : (f : Footer) → is_footer f ≡ true → 0 + rows_told (drop 0 f.blocks) ≡ f.rows
none_counted f is = let told = all_told f.columns 0 f.rows f.blocks (footer_parts f is).fit in omega arith

pub no_mark : BlockMark
no_mark = record { place = 0; length = 0; rows = 0; marks = [] }

-- the rows of one block more
pub block_counted : (f : Footer) (b rows longer : ℕ) → b < length f.blocks → rows + rows_told (drop b f.blocks) ≡ f.rows → OfBlock f b (λ mark. longer ≡ rows + mark.rows) → longer + rows_told (drop (b + 1) f.blocks) ≡ f.rows
block_counted f b rows longer lt before more =
    let mark = get_or f.blocks b no_mark in
    let next = more mark (slice_get-get_or f.blocks b no_mark lt) in
    let split = ap rows_told (drop_more f.blocks b no_mark lt) in
    omega (arith, split)

-- none is left behind the last block
pub all_counted : (f : Footer) (b rows : ℕ) → length f.blocks ≤ b → rows + rows_told (drop b f.blocks) ≡ f.rows → rows ≡ f.rows
all_counted f b rows end counted =
    let none = ap rows_told (drop_all b f.blocks end) in
    omega (arith, none)
