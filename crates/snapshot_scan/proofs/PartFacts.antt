-- Parts of a snapshot and what is read of them.
use Rattle.std.proofs.Common.{◌≡◌, refl, ap, sym, subst, ◌∙◌, ℕ, zero, suc, ◌+◌, ◌*◌, ◌-◌, ◌<◌, ◌≤◌, List, [], ◌∷◌, length, slice_get, Some, true, IsTrue, arith}
use Rattle.std.specs.List.{AllByRecursion}
use Rattle.std.proofs.lemmas.Bool.{and_parts}
use Rattle.pk_values.specs.Schemas.{Layout}
use Rattle.pk_values.specs.declared.cells.Value.{Value}
use Rattle.column_page.specs.Footers.{block_fits, blocks_fit, is_footer}
use Rattle.column_page.specs.declared.footers.BlockMark.{BlockMark}
use Rattle.column_page.specs.declared.footers.Footer.{Footer}
use Rattle.column_page.proofs.FooterParts.{block_parts, footer_parts}
use Rattle.dev_traits.specs.Reader.{ReaderView}
use Rattle.dev_traits.specs.declared.faults.Damaged.{Damaged}
use Rattle.dev_traits.specs.declared.faults.ReadFault.{ReadFault}
use Rattle.dev_traits.specs.declared.faults.ReadFault.TheVariants as read
use Rattle.segment_form.specs.Segments.{blocks_of}
use Rattle.segment_read.specs.Reads.{KnowsFooter, OfBlock, OfFile, OnDamage}
use Rattle.segment_read.specs.Rows.{IsNoSegment, IsSegmentOf}
use Rattle.rowsets.specs.Scans.{Piece, alive}
use Rattle.snapshot_scan.specs.Parts.{PartView, IsPart, IsPieceOf, block_at, live_in, read_by}
use Rattle.snapshot_scan.proofs.StreamFacts.{block_is}

abbrev Row : Type 0
Row = List Value

pub part_still : (s : Layout) (old new : PartView) → IsPart s old → new ≡ read_by new.reader old → KnowsFooter s new.reader old.footer → IsPart s new
part_still s old new is kept known = subst (IsPart s) (sym kept) (record { is = is.is; known = known; within = is.within })

pub part_same : (s : Layout) (old new : PartView) → IsPart s old → new.footer ≡ old.footer → new.dead ≡ old.dead → KnowsFooter s new.reader new.footer → IsPart s new
part_same s old new is footer dead known = record {
  is = subst (λ (f : Footer). IsTrue (is_footer f)) (sym footer) is.is;
  known = known;
  within = subst (λ (f : Footer). AllByRecursion (λ r. r < f.rows) new.dead) (sym footer) (subst (λ rows. AllByRecursion (λ r. r < old.footer.rows) rows) (sym dead) is.within);
}

pub piece_still : (s : Layout) (part : PartView) (reader : ReaderView) (piece : Piece) → IsPieceOf s part piece → reader.bytes ≡ part.reader.bytes → IsPieceOf s (read_by reader part) piece
piece_still s part reader piece is same = record { file = is.file; told = same ∙ is.told; is = is.is; dead = is.dead }

-- the footer tells how many rows there are
pub piece_long : (s : Layout) (part : PartView) (piece : Piece) → IsPieceOf s part piece → part.footer.rows ≡ length piece.rows
piece_long s part piece is = ap (λ (f : Footer). f.rows) is.is.footer_is

pub on_damage : (e : ReadFault) (P Q : Damaged → Type 0) → ((damaged : Damaged) → P damaged → Q damaged) → OnDamage e P → OnDamage e Q
on_damage (read.Damaged d) P Q f h = f d h
on_damage read.StoreFault P Q f h = tt
on_damage read.Memory P Q f h = tt

-- no damage is told of a piece
pub no_damage : (s : Layout) (part : PartView) (e : ReadFault) → OnDamage e (λ damaged. OfFile part.reader (IsNoSegment s part.footer))
    → OnDamage e (λ damaged. (piece : Piece) → IsPieceOf s part piece → ⊥)
no_damage s part e h = on_damage e (λ damaged. OfFile part.reader (IsNoSegment s part.footer)) (λ damaged. (piece : Piece) → IsPieceOf s part piece → ⊥)
    (λ damaged none piece is. none is.file is.told piece.rows is.is) h

block_end : (columns at left : ℕ) (bs : List BlockMark) (b : ℕ) (mark : BlockMark) → blocks_fit columns at left bs ≡ true → slice_get bs b ≡ Some mark
    → (1 ≤ mark.rows) × (b * 1024 + mark.rows ≤ left)
block_end columns at left [] b mark h got = cc
block_end columns at left (x ∷ bs) zero mark h got =
    let parts = and_parts (block_fits columns at left x) (blocks_fit columns (at + x.length + 32) (left - x.rows) bs) h in
    let block = block_parts columns at left x parts.0 in
    let is : x ≡ mark = same x mark got in
    let rows : x.rows ≡ mark.rows = ap (λ (m : BlockMark). m.rows) is in
    let some = block.some_rows in
    let most = block.rows in
    (omega arith, omega arith)
  where
    same : (x y : BlockMark) → Some x ≡ Some y → x ≡ y
    same x y e = cc
block_end columns at left (x ∷ bs) (suc b) mark h got =
    let parts = and_parts (block_fits columns at left x) (blocks_fit columns (at + x.length + 32) (left - x.rows) bs) h in
    let most = (block_parts columns at left x parts.0).rows in
    let more = block_end columns (at + x.length + 32) (left - x.rows) bs b mark parts.1 got in
    let some = more.0 in
    let low = more.1 in
    (some, omega arith)

-- the rows of a block are among those of the file
pub block_within : (f : Footer) (b n : ℕ) → is_footer f ≡ true → b < length f.blocks → OfBlock f b (λ mark. n ≡ mark.rows) → b * 1024 + n ≤ f.rows
block_within f b n h lt count = go f.blocks refl
  where
    got : (bs : List BlockMark) (i : ℕ) → i < length bs → (mark : BlockMark) × (slice_get bs i ≡ Some mark)
    got [] i lt = absurd (omega arith)
    got (x ∷ bs) zero lt = (x, refl)
    got (x ∷ bs) (suc i) lt = got bs i (omega arith)

    go : (bs : List BlockMark) → f.blocks ≡ bs → b * 1024 + n ≤ f.rows
    go bs e =
        let mark = got f.blocks b lt in
        let end = (block_end f.columns 0 f.rows f.blocks b mark.0 (footer_parts f h).fit mark.1).1 in
        let same = count mark.0 mark.1 in
        omega arith

pub few_rows : (f : Footer) → is_footer f ≡ true → f.rows ≤ 65536
few_rows f h = (footer_parts f h).few_rows

-- the live rows of a block that was read
pub live_of_block : (s : Layout) (part : PartView) (b : ℕ) (found live : List Row)
    → OfFile part.reader (λ file. (rows : List Row) → IsSegmentOf s part.footer file rows → slice_get (blocks_of rows) b ≡ Some found)
    → live ≡ alive part.dead (b * 1024) found → (piece : Piece) → IsPieceOf s part piece → live ≡ live_in b piece
live_of_block s part b found live of_segment are piece is =
    are ∙ ap (λ dead. alive dead (b * 1024) found) is.dead ∙ ap (alive piece.dead (b * 1024)) (block_is b piece.rows found (of_segment is.file is.told piece.rows is.is))

-- all rows of a block that was read
pub written_of_block : (s : Layout) (part : PartView) (b : ℕ) (found : List Row)
    → OfFile part.reader (λ file. (rows : List Row) → IsSegmentOf s part.footer file rows → slice_get (blocks_of rows) b ≡ Some found)
    → (piece : Piece) → IsPieceOf s part piece → found ≡ block_at b piece.rows
written_of_block s part b found of_segment piece is = block_is b piece.rows found (of_segment is.file is.told piece.rows is.is)

pub live_of_part : (s : Layout) (part : PartView) (found live : List Row)
    → OfFile part.reader (λ file. (rows : List Row) → IsSegmentOf s part.footer file rows → found ≡ rows)
    → live ≡ alive part.dead 0 found → (piece : Piece) → IsPieceOf s part piece → live ≡ alive piece.dead 0 piece.rows
live_of_part s part found live of_segment are piece is =
    are ∙ ap (λ dead. alive dead 0 found) is.dead ∙ ap (alive piece.dead 0) (of_segment is.file is.told piece.rows is.is)
