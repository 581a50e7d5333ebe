-- A block and a footer, read as what they are made of.
use Rattle.std.proofs.Common.{◌≡◌, ℕ, ◌+◌, ◌<◌, ◌^◌, List, ◌++◌, length, take, drop, sym, ap, ◌∙◌, append_assoc, subst}
use Rattle.std.specs.Prelude.{All}
use Rattle.std.specs.List.{flat_map}
use Rattle.std.proofs.lemmas.List.{drop-drop}
use Rattle.column_page.specs.declared.footers.ColumnMark.{ColumnMark}
use Rattle.column_page.specs.declared.footers.BlockMark.{BlockMark}
use Rattle.column_page.specs.declared.footers.FooterFields.{FooterFields}
use Rattle.column_page.specs.Footers.{block_bytes, footer_fields, mark_bytes, u32_bytes, u64_bytes}
use Rattle.column_page.specs.FooterReading.{BlockFits, FooterFits, SequenceThen}
use Rattle.column_page.proofs.SequenceFacts.{u32_step, u64_step}

pub regroup : (a b c d e : List ℕ) → (a ++ (b ++ (c ++ d))) ++ e ≡ a ++ (b ++ (c ++ (d ++ e)))
regroup a b c d e = simp append_assoc

-- what follows the bytes that were read from a piece
pub piece_more : (at w : ℕ) (bytes piece next tail : List ℕ) → piece ≡ drop at bytes → next ≡ drop (at + w) bytes → drop w piece ≡ tail → next ≡ tail
piece_more at w bytes piece next tail e f g = f ∙ sym (drop-drop w at bytes) ∙ ap (drop w) (sym e) ∙ g

abbrev pub after_rows : BlockMark → List ℕ → List ℕ
after_rows b rest = flat_map mark_bytes b.marks ++ rest

abbrev pub after_length : BlockMark → List ℕ → List ℕ
after_length b rest = u32_bytes b.rows ++ after_rows b rest

abbrev pub after_place : BlockMark → List ℕ → List ℕ
after_place b rest = u32_bytes b.length ++ after_length b rest

pub block_open : (b : BlockMark) (rest bytes : List ℕ) → block_bytes b ++ rest ≡ bytes → u64_bytes b.place ++ after_place b rest ≡ bytes
block_open b rest bytes e = sym (regroup (u64_bytes b.place) (u32_bytes b.length) (u32_bytes b.rows) (flat_map mark_bytes b.marks) rest) ∙ e

-- the place is told, and the length stands behind it
pub place_told : (columns place : ℕ) (bytes p8 : List ℕ) (b : BlockMark) (rest : List ℕ) → BlockFits columns b → block_bytes b ++ rest ≡ bytes → place < 2 ^ 64 → take 8 bytes ≡ u64_bytes place → p8 ≡ drop 8 bytes → (place ≡ b.place) × (p8 ≡ after_place b rest)
place_told columns place bytes p8 b rest fit e small front p =
    let step = u64_step place b.place bytes (after_place b rest) small fit.place front (block_open b rest bytes e) in
    (step.0, p ∙ step.1)

-- the length is told, and the rows stand behind it
pub length_told : (columns len : ℕ) (bytes p8 p12 : List ℕ) (b : BlockMark) (rest : List ℕ) → BlockFits columns b → p8 ≡ after_place b rest → len < 2 ^ 32 → take 4 p8 ≡ u32_bytes len → p8 ≡ drop 8 bytes → p12 ≡ drop 12 bytes → (len ≡ b.length) × (p12 ≡ after_length b rest)
length_told columns len bytes p8 p12 b rest fit e small front p q =
    let step = u32_step len b.length p8 (after_length b rest) small fit.length_fits front (sym e) in
    (step.0, piece_more 8 4 bytes p8 p12 (after_length b rest) p q step.1)

-- the rows are told, and the marks stand behind them
pub rows_told : (columns rows : ℕ) (bytes p12 p16 : List ℕ) (b : BlockMark) (rest : List ℕ) → BlockFits columns b → p12 ≡ after_length b rest → rows < 2 ^ 32 → take 4 p12 ≡ u32_bytes rows → p12 ≡ drop 12 bytes → p16 ≡ drop 16 bytes → (rows ≡ b.rows) × (p16 ≡ after_rows b rest)
rows_told columns rows bytes p12 p16 b rest fit e small front p q =
    let step = u32_step rows b.rows p12 (after_rows b rest) small fit.rows front (sym e) in
    (step.0, piece_more 12 4 bytes p12 p16 (after_rows b rest) p q step.1)

pub block_is : (place len rows : ℕ) (marks : List ColumnMark) (b : BlockMark) → place ≡ b.place → len ≡ b.length → rows ≡ b.rows → marks ≡ b.marks → ◌≡◌ {A = BlockMark} (record { place = place; length = len; rows = rows; marks = marks }) b
block_is place len rows marks b p l r m =
    let w : BlockMark = record { place = place; length = len; rows = rows; marks = marks } in
    let x : BlockMark = record { place = b.place; length = len; rows = rows; marks = marks } in
    let y : BlockMark = record { place = b.place; length = b.length; rows = rows; marks = marks } in
    let z : BlockMark = record { place = b.place; length = b.length; rows = b.rows; marks = marks } in
    let one : w ≡ x = ap (λ (n : ℕ). record w { place = n }) p in
    let two : x ≡ y = ap (λ (n : ℕ). record x { length = n }) l in
    let three : y ≡ z = ap (λ (n : ℕ). record y { rows = n }) r in
    one ∙ two ∙ three ∙ ap (λ (ms : List ColumnMark). record z { marks = ms }) m

-- ---- the whole footer

abbrev pub after_count : FooterFields → List ℕ → List ℕ
after_count f rest = flat_map block_bytes f.blocks ++ rest

abbrev pub after_footer_rows : FooterFields → List ℕ → List ℕ
after_footer_rows f rest = u32_bytes (length f.blocks) ++ after_count f rest

abbrev pub after_columns : FooterFields → List ℕ → List ℕ
after_columns f rest = u32_bytes f.rows ++ after_footer_rows f rest

pub fields_open : (f : FooterFields) (rest bytes : List ℕ) → footer_fields f ++ rest ≡ bytes → u32_bytes f.columns ++ after_columns f rest ≡ bytes
fields_open f rest bytes e = sym (regroup (u32_bytes f.columns) (u32_bytes f.rows) (u32_bytes (length f.blocks)) (flat_map block_bytes f.blocks) rest) ∙ e

-- the columns are told, and the rows stand behind them
pub columns_told : (columns : ℕ) (bytes p4 : List ℕ) (f : FooterFields) (rest : List ℕ) → FooterFits f → footer_fields f ++ rest ≡ bytes → columns < 2 ^ 32 → take 4 bytes ≡ u32_bytes columns → p4 ≡ drop 4 bytes → (columns ≡ f.columns) × (p4 ≡ after_columns f rest)
columns_told columns bytes p4 f rest fit e small front p =
    let step = u32_step columns f.columns bytes (after_columns f rest) small fit.columns front (fields_open f rest bytes e) in
    (step.0, p ∙ step.1)

-- the rows of all blocks are told, and the number of blocks stands behind them
pub footer_rows_told : (rows : ℕ) (bytes p4 p8 : List ℕ) (f : FooterFields) (rest : List ℕ) → FooterFits f → p4 ≡ after_columns f rest → rows < 2 ^ 32 → take 4 p4 ≡ u32_bytes rows → p4 ≡ drop 4 bytes → p8 ≡ drop 8 bytes → (rows ≡ f.rows) × (p8 ≡ after_footer_rows f rest)
footer_rows_told rows bytes p4 p8 f rest fit e small front p q =
    let step = u32_step rows f.rows p4 (after_footer_rows f rest) small fit.rows front (sym e) in
    (step.0, piece_more 4 4 bytes p4 p8 (after_footer_rows f rest) p q step.1)

-- the number of blocks is told, and the blocks stand behind it
pub blocks_told : (columns count : ℕ) (bytes p8 p12 : List ℕ) (f : FooterFields) (rest : List ℕ) → FooterFits f → columns ≡ f.columns → p8 ≡ after_footer_rows f rest → count < 2 ^ 32 → take 4 p8 ≡ u32_bytes count → p8 ≡ drop 8 bytes → p12 ≡ drop 12 bytes → SequenceThen (BlockFits columns) block_bytes count p12 f.blocks rest
blocks_told columns count bytes p8 p12 f rest fit same e small front p q =
    let step = u32_step count (length f.blocks) p8 (after_count f rest) small fit.number front (sym e) in
    record {
      fit = subst (λ (n : ℕ). All (BlockFits n) f.blocks) (sym same) fit.blocks;
      number = sym step.0;
      joined = sym (piece_more 8 4 bytes p8 p12 (after_count f rest) p q step.1);
    }

pub footer_is : (columns rows : ℕ) (blocks : List BlockMark) (f : FooterFields) → columns ≡ f.columns → rows ≡ f.rows → blocks ≡ f.blocks → ◌≡◌ {A = FooterFields} (record { columns = columns; rows = rows; blocks = blocks }) f
footer_is columns rows blocks f c r b =
    let x : FooterFields = record { columns = columns; rows = rows; blocks = blocks } in
    let y : FooterFields = record { columns = f.columns; rows = rows; blocks = blocks } in
    let z : FooterFields = record { columns = f.columns; rows = f.rows; blocks = blocks } in
    let one : x ≡ y = ap (λ (n : ℕ). record x { columns = n }) c in
    let two : y ≡ z = ap (λ (n : ℕ). record y { rows = n }) r in
    one ∙ two ∙ ap (λ (bs : List BlockMark). record z { blocks = bs }) b
