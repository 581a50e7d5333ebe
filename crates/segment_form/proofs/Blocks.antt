-- Rows in blocks, and what the footer tells of them.
use Rattle.std.proofs.Common.{◌≡◌, ℕ, zero, suc, ◌+◌, ◌-◌, ◌*◌, ◌<◌, ◌≤◌, ◌^◌, min, List, [], ◌∷◌, ◌++◌, length, length-append, take, drop, refl, sym, ap, ◌∙◌, subst, arith, Bool as Truth, true, IsTrue, None}
use Rattle.std.specs.Prelude.{All, ◌==◌, nat_le}
use Rattle.std.specs.List.{flat_map, list_all}
use Rattle.std.proofs.lemmas.Bool.{and_from, eq-eqb, le-leb}
use Rattle.std.proofs.lemmas.List.{drop_at, length-drop, length-take}
use Rattle.std.proofs.lemmas.List.Elements.{All-cons, All-drop, All-take}
use Rattle.pk_values.specs.Schemas.{Layout, fits_row, schema_fault}
use Rattle.pk_values.specs.SchemaFacts.{columns_within, keys_some, keys_within}
use Rattle.pk_values.specs.declared.cells.Value.{Value}
use Rattle.column_page.specs.Footers.{block_fits, blocks_fit, is_footer, span_rises}
use Rattle.column_page.specs.FooterReading.{BlockFits, FooterFits, IsSegmentFooter}
use Rattle.column_page.specs.declared.footers.BlockMark.{BlockMark}
use Rattle.column_page.specs.declared.footers.ColumnMark.{ColumnMark}
use Rattle.segment_form.specs.Segments.{block_body, block_file, block_mark, block_marks, blocks_for, blocks_from, blocks_of, blocks_end, footer_of, marks_of, segment_file, tail_of, AreSegmentRows, EndsWith}
use Rattle.segment_form.proofs.Bodies.{body_long, length-block_file}
use Rattle.segment_form.proofs.Fitting.{columns_fit}
use Rattle.segment_form.proofs.Marks.{length-marks_of, marks_fit, marks_rise}
use Rattle.segment_form.proofs.RowsInBlocks.{length-blocks_of}

-- ---- blocks

count_some : (n : ℕ) → 0 < n → blocks_for n ≡ suc (blocks_for (n - 1024))
count_some n some = omega arith

-- rows begin with their first block
pub blocks_some : (rows : List (List Value)) → 0 < length rows → blocks_of rows ≡ take 1024 rows ∷ blocks_of (drop 1024 rows)
blocks_some rows some =
    ap (λ (n : ℕ). blocks_from n rows) (count_some (length rows) some)
    ∙ ap (λ (n : ℕ). take 1024 rows ∷ blocks_from (blocks_for n) (drop 1024 rows)) (sym (length-drop 1024 rows))

pub blocks_none : (rows : List (List Value)) → length rows ≡ 0 → blocks_of rows ≡ []
blocks_none rows none = ap (λ (n : ℕ). blocks_from (blocks_for n) rows) none

pub length-block_marks : (s : Layout) (place : ℕ) (bs : List (List (List Value))) → length (block_marks s place bs) ≡ length bs
length-block_marks s place [] = refl
length-block_marks s place (b ∷ bs) = ap suc (length-block_marks s (place + length (block_file s b)) bs)

count_left : (n : ℕ) (rows : List (List Value)) → suc n ≡ blocks_for (length rows) → (0 < length rows) × (n ≡ blocks_for (length (drop 1024 rows)))
count_left n rows e = (omega arith, omega (arith, length-drop 1024 rows))

-- ---- what is told of one block

abbrev RowsFit : Layout → List (List Value) → Type 0
RowsFit s rows = All (λ row. IsTrue (fits_row s row)) rows

mark_fits_here : (s : Layout) (place : ℕ) (rows : List (List Value)) → 0 < length rows → block_fits (length s.columns) place (length rows) (block_mark s place (take 1024 rows)) ≡ true
mark_fits_here s place rows some =
    let block = take 1024 rows in
    let marks = marks_of 0 s.columns block in
    let number : length block ≡ min 1024 (length rows) = length-take 1024 rows in
    let p : ColumnMark → Truth = λ m. span_rises m.span in
    and_from (place == place) _ (eq-eqb place place refl)
    (and_from (nat_le 1 (length block)) _ (le-leb 1 (length block) (omega arith))
    (and_from (length block == min 1024 (length rows)) _ (eq-eqb (length block) (min 1024 (length rows)) number)
    (and_from (length marks == length s.columns) (list_all p marks) (eq-eqb (length marks) (length s.columns) (length-marks_of 0 s.columns block))
    (marks_rise 0 s.columns block))))

mark_in_range : (s : Layout) → schema_fault s.columns s.keys ≡ None → (place : ℕ) (rows : List (List Value)) → RowsFit s rows → length rows ≤ 1024 → place < 2 ^ 64 → BlockFits (length s.columns) (block_mark s place rows)
mark_in_range s lawful place rows fit few low = record {
  place = low;
  length_fits = body_long s rows lawful fit few;
  rows = omega arith;
  number = length-marks_of 0 s.columns rows;
  marks = marks_fit 0 s.columns rows (columns_fit s rows lawful fit 0 s.columns refl);
}

-- ---- what is told of all blocks

moved : (columns at at' left left' : ℕ) (bs : List BlockMark) → at ≡ at' → left ≡ left' → blocks_fit columns at left bs ≡ true → blocks_fit columns at' left' bs ≡ true
moved columns at at' left left' bs e f h =
    subst (λ (k : ℕ). blocks_fit columns k left' bs ≡ true) e (subst (λ (k : ℕ). blocks_fit columns at k bs ≡ true) f h)

stand : (s : Layout) (n place : ℕ) (rows : List (List Value)) → n ≡ blocks_for (length rows) → blocks_fit (length s.columns) place (length rows) (block_marks s place (blocks_from n rows)) ≡ true
stand s zero place rows e = eq-eqb (length rows) 0 (omega arith)
stand s (suc n) place rows e =
    let block = take 1024 rows in
    let left = count_left n rows e in
    let next = place + length (block_file s block) in
    let marks = block_marks s next (blocks_from n (drop 1024 rows)) in
    let rest = stand s n next (drop 1024 rows) left.1 in
    let long = length-block_file s block in
    let gone : length (drop 1024 rows) ≡ length rows - length block = omega (arith, length-drop 1024 rows, length-take 1024 rows) in
    and_from (block_fits (length s.columns) place (length rows) (block_mark s place block)) (blocks_fit (length s.columns) (place + length (block_body s block) + 32) (length rows - length block) marks)
    (mark_fits_here s place rows left.0)
    (moved (length s.columns) next (place + length (block_body s block) + 32) (length (drop 1024 rows)) (length rows - length block) marks (omega arith) gone rest)

in_range : (s : Layout) → schema_fault s.columns s.keys ≡ None → (n place : ℕ) (rows : List (List Value)) → RowsFit s rows → place + n * 2 ^ 33 ≤ 2 ^ 63 → All (BlockFits (length s.columns)) (block_marks s place (blocks_from n rows))
in_range s lawful zero place rows fit low = λ k d lt. absurd (omega arith)
in_range s lawful (suc n) place rows fit low =
    let block = take 1024 rows in
    let next = place + length (block_file s block) in
    let P : List Value → Type 0 = λ row. IsTrue (fits_row s row) in
    let here = All-take P 1024 rows fit in
    let few : length block ≤ 1024 = omega (arith, length-take 1024 rows) in
    let long = length-block_file s block in
    let body = body_long s block lawful here few in
    All-cons (BlockFits (length s.columns)) (block_mark s place block) (block_marks s next (blocks_from n (drop 1024 rows)))
    (mark_in_range s lawful place block here few (omega arith))
    (in_range s lawful n next (drop 1024 rows) (All-drop P 1024 rows fit) (omega arith))

-- ---- the footer

length-footer_blocks : (s : Layout) (rows : List (List Value)) → length (block_marks s 0 (blocks_of rows)) ≡ blocks_for (length rows)
length-footer_blocks s rows = length-block_marks s 0 (blocks_of rows) ∙ length-blocks_of rows

pub segment_footer_fits : (s : Layout) (rows : List (List Value)) → schema_fault s.columns s.keys ≡ None → AreSegmentRows s rows → FooterFits (footer_of s rows)
segment_footer_fits s rows lawful are =
    let few : length rows ≤ 65536 = are.few in
    let columns = columns_within s.columns s.keys lawful in
    record {
      columns = omega arith;
      rows = omega arith;
      number = omega (arith, length-footer_blocks s rows);
      blocks = in_range s lawful (blocks_for (length rows)) 0 rows are.fit (omega arith);
    }

pub segment_is_footer : (s : Layout) (rows : List (List Value)) → schema_fault s.columns s.keys ≡ None → AreSegmentRows s rows → IsTrue (is_footer (footer_of s rows))
segment_is_footer s rows lawful are =
    let some : 1 ≤ length rows = are.some in
    let few : length rows ≤ 65536 = are.few in
    let columns = columns_within s.columns s.keys lawful in
    let keys = keys_some s.columns s.keys lawful in
    let within = keys_within s.columns s.keys lawful in
    let blocks = block_marks s 0 (blocks_of rows) in
    let number = length-footer_blocks s rows in
    and_from (nat_le 1 (length s.columns)) _ (le-leb 1 (length s.columns) (omega arith))
    (and_from (nat_le (length s.columns) 64) _ (le-leb (length s.columns) 64 columns)
    (and_from (nat_le 1 (length rows)) _ (le-leb 1 (length rows) some)
    (and_from (nat_le (length rows) 65536) _ (le-leb (length rows) 65536 few)
    (and_from (nat_le (length blocks) 64) (blocks_fit (length s.columns) 0 (length rows) blocks) (le-leb (length blocks) 64 (omega arith))
    (stand s (blocks_for (length rows)) 0 rows refl)))))

pub segment_footer_is : (s : Layout) (rows : List (List Value)) → schema_fault s.columns s.keys ≡ None → AreSegmentRows s rows → IsSegmentFooter (footer_of s rows)
segment_footer_is s rows lawful are = record { is = segment_is_footer s rows lawful are; fits = segment_footer_fits s rows lawful are }

-- ---- the file

ends_told : (s : Layout) (at : ℕ) (bs : List (List (List Value))) → at + length (flat_map (block_file s) bs) ≡ blocks_end at (block_marks s at bs)
ends_told s at [] = omega arith
ends_told s at (b ∷ bs) =
    let next = at + length (block_file s b) in
    let here : at + length (block_file s b ++ flat_map (block_file s) bs) ≡ next + length (flat_map (block_file s) bs) = omega (arith, length-append (block_file s b) (flat_map (block_file s) bs)) in
    let there : next ≡ at + length (block_body s b) + 32 = omega (arith, length-block_file s b) in
    here ∙ ends_told s next bs ∙ ap (λ (k : ℕ). blocks_end k (block_marks s next bs)) there

-- the file of rows ends with their footer
pub ends_with_footer : (s : Layout) (rows : List (List Value)) → EndsWith (footer_of s rows) (segment_file s rows)
ends_with_footer s rows =
    drop_at (flat_map (block_file s) (blocks_of rows)) (tail_of (footer_of s rows)) (blocks_end 0 (block_marks s 0 (blocks_of rows)))
    (none_before (length (flat_map (block_file s) (blocks_of rows))) ∙ ends_told s 0 (blocks_of rows))
  where
    none_before : (k : ℕ) → k ≡ 0 + k
    none_before k = omega arith
