-- The next block with a live row, and a cursor at the live rows of a block.
use Rattle.std.proofs.Common.{◌≡◌, refl, ap, sym, subst, ◌∙◌, ℕ, zero, suc, ◌+◌, ◌*◌, ◌-◌, ◌<◌, ◌≤◌, ◌==◌, min, List, [], ◌∷◌, ◌++◌, length, slice_get, Option, Some, None, Bool, true, false, cond, IfSome, IfNone, All, IsTrue, arith}
use Rattle.std.specs.List.{list_any}
use Rattle.std.proofs.lemmas.Bool.{and_parts, eqb-true}
use Rattle.std.proofs.lemmas.List.Elements.{All-cons, All-nil, All-tail}
use Rattle.pk_values.specs.Schemas.{Layout, fits_row}
use Rattle.pk_values.specs.declared.cells.Value.{Value}
use Rattle.column_page.specs.Footers.{block_fits, blocks_fit, is_footer}
use Rattle.column_page.specs.declared.footers.BlockMark.{BlockMark}
use Rattle.column_page.specs.declared.footers.Footer.{Footer}
use Rattle.column_page.proofs.FooterParts.{block_parts, footer_parts}
use Rattle.segment_read.specs.Reads.{OfBlock}
use Rattle.rowsets.specs.Scans.{Piece, alive}
use Rattle.row_merge.specs.Cursors.{CursorView}
use Rattle.snapshot_scan.specs.Parts.{PartView, live_from, live_in}
use Rattle.snapshot_scan.specs.Scans.{HasLive, IsCursor, rows_ahead}
use Rattle.snapshot_scan.proofs.ListFacts.{none_some, some_one}
use Rattle.snapshot_scan.proofs.StreamFacts.{live_later, live_never, live_next, live_some}

abbrev Row : Type 0
Row = List Value

-- ---- blocks of a footer

block_exact : (columns at left : ℕ) (bs : List BlockMark) (b : ℕ) (mark : BlockMark) → blocks_fit columns at left bs ≡ true → slice_get bs b ≡ Some mark → mark.rows ≡ min 1024 (left - b * 1024)
block_exact columns at left [] b mark h got = absurd (none_some mark got)
block_exact columns at left (x ∷ bs) zero mark h got =
    let parts = and_parts (block_fits columns at left x) (blocks_fit columns (at + x.length + 32) (left - x.rows) bs) h in
    let most = (block_parts columns at left x parts.0).rows in
    let is = ap (λ (m : BlockMark). m.rows) (some_one x mark got) in
    omega arith
block_exact columns at left (x ∷ bs) (suc b) mark h got =
    let parts = and_parts (block_fits columns at left x) (blocks_fit columns (at + x.length + 32) (left - x.rows) bs) h in
    let most = (block_parts columns at left x parts.0).rows in
    let more = block_exact columns (at + x.length + 32) (left - x.rows) bs b mark parts.1 got in
    omega arith

block_there : (columns at left : ℕ) (bs : List BlockMark) (b : ℕ) → blocks_fit columns at left bs ≡ true → b * 1024 < left → b < length bs
block_there columns at left [] b h lt = let none = eqb-true left 0 h in absurd (omega arith)
block_there columns at left (x ∷ bs) zero h lt = omega arith
block_there columns at left (x ∷ bs) (suc b) h lt =
    let parts = and_parts (block_fits columns at left x) (blocks_fit columns (at + x.length + 32) (left - x.rows) bs) h in
    let most = (block_parts columns at left x parts.0).rows in
    let more = block_there columns (at + x.length + 32) (left - x.rows) bs b parts.1 (omega arith) in
    omega arith

-- a block with a live row is there
pub live_there : (f : Footer) (dead : List ℕ) (b : ℕ) → is_footer f ≡ true → HasLive f.rows dead b → b < length f.blocks
live_there f dead b h live =
    let from = live.from in
    let there = live.there in
    block_there f.columns 0 f.rows f.blocks b (footer_parts f h).fit (omega arith)

-- and its live rows are some
pub live_given : (f : Footer) (dead : List ℕ) (b : ℕ) (found : List Row) → is_footer f ≡ true → HasLive f.rows dead b → OfBlock f b (λ mark. length found ≡ mark.rows) → alive dead (b * 1024) found ≡ [] → ⊥
live_given f dead b found h live count none =
    let lt = live_there f dead b h live in
    let mark = got f.blocks b lt in
    let exact = block_exact f.columns 0 f.rows f.blocks b mark.0 (footer_parts f h).fit mark.1 in
    let same = count mark.0 mark.1 in
    let from = live.from in
    let within = live.within in
    let there = live.there in
    live_some dead (b * 1024) found live.row from (omega arith) live.live none
  where
    got : (bs : List BlockMark) (i : ℕ) → i < length bs → (mark : BlockMark) × (slice_get bs i ≡ Some mark)
    got [] i lt = absurd (omega arith)
    got (x ∷ bs) zero lt = (x, refl)
    got (x ∷ bs) (suc i) lt = got bs i (omega arith)

pub alive_fit : (s : Layout) (dead : List ℕ) (i : ℕ) (rows : List Row) → All (λ row. IsTrue (fits_row s row)) rows → All (λ row. IsTrue (fits_row s row)) (alive dead i rows)
alive_fit s dead i [] h = h
alive_fit s dead i (x ∷ rows) h = go (list_any (λ r. r == i) dead) (alive_fit s dead (i + 1) rows (All-tail (λ row. IsTrue (fits_row s row)) x rows h))
  where
    go : (b : Bool) → All (λ row. IsTrue (fits_row s row)) (alive dead (i + 1) rows) → All (λ row. IsTrue (fits_row s row)) (cond b (alive dead (i + 1) rows) (x ∷ alive dead (i + 1) rows))
    go true more = more
    go false more = All-cons (λ row. IsTrue (fits_row s row)) x (alive dead (i + 1) rows) (h 0 x (omega arith)) more

-- ---- the next block

pub has_live : (o : Option ℕ) (rows : ℕ) (dead : List ℕ) → IfSome o (λ b. (r : ℕ) × (b * 1024 ≤ r) × (r < b * 1024 + 1024) × (r < rows) × (list_any (λ d. d == r) dead ≡ false)) → IfSome o (HasLive rows dead)
has_live None rows dead h = tt
has_live (Some b) rows dead (r, from, within, there, live) = record { row = r; from = from; within = within; there = there; live = live }

pub ahead_is : (o : Option ℕ) (dead : List ℕ) (rows from : ℕ) (piece : Piece) → dead ≡ piece.dead → rows ≡ length piece.rows
    → IfSome o (λ b. (from ≤ b) × (b * 1024 < rows))
    → IfSome o (λ b. (r : ℕ) → from * 1024 ≤ r → r < b * 1024 → list_any (λ d. d == r) dead ≡ true)
    → IfNone o ((r : ℕ) → from * 1024 ≤ r → r < rows → list_any (λ d. d == r) dead ≡ true)
    → rows_ahead o piece ≡ live_from from piece
ahead_is None dead rows from piece same long there before none =
    sym (live_never from piece (λ r le lt. ap (λ ds. list_any (λ d. d == r) ds) (sym same) ∙ none r le (omega arith)))
ahead_is (Some b) dead rows from piece same long there before none =
    sym (live_later from b piece there.0 (λ r le lt. ap (λ ds. list_any (λ d. d == r) ds) (sym same) ∙ before r le lt))

-- a cursor with these rows at hand
pub cursor_is : (s : Layout) (part : PartView) (c : CursorView) (rows : List Row) (o : Option ℕ) → c ≡ record { rows = rows; ahead = o } → All (λ row. IsTrue (fits_row s row)) rows
    → IfSome o (HasLive part.footer.rows part.dead) → IsCursor s part c
cursor_is s part c rows o is fit live = subst (IsCursor s part) (sym is) (fit, live)

pub cursor_rows : (c : CursorView) (rows : List Row) (o : Option ℕ) (piece : Piece) → c ≡ record { rows = rows; ahead = o } → c.rows ++ rows_ahead c.ahead piece ≡ rows ++ rows_ahead o piece
cursor_rows c rows o piece is = ap (λ (d : CursorView). d.rows ++ rows_ahead d.ahead piece) is

pub no_rows_fit : (s : Layout) → All (λ row. IsTrue (fits_row s row)) []
no_rows_fit s = All-nil (λ row. IsTrue (fits_row s row))

-- the live rows of a block and those behind it
pub on_block : (b : ℕ) (piece : Piece) (live : List Row) (o : Option ℕ) → live ≡ live_in b piece → rows_ahead o piece ≡ live_from (b + 1) piece → live ++ rows_ahead o piece ≡ live_from b piece
on_block b piece live o here behind = ap (λ xs. xs ++ rows_ahead o piece) here ∙ ap (λ ys. live_in b piece ++ ys) behind ∙ sym (live_next b piece)

-- the next block stands behind this one
pub past : (b rows : ℕ) (o : Option ℕ) → IfSome o (λ n. (b + 1 ≤ n) × (n * 1024 < rows)) → IfSome o (λ n. b < n)
past b rows None h = tt
past b rows (Some n) h = let le = h.0 in omega arith
