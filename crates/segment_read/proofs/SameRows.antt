-- The rows that are read from the file of a segment are those that it was made of.
use Rattle.std.proofs.Common.{◌≡◌, ℕ, zero, suc, List, [], ◌∷◌, length, take, refl, sym, subst, ap, ◌∙◌, arith, slice_get, Some}
use Rattle.std.proofs.lemmas.List.{take_all}
use Rattle.pk_values.specs.Schemas.{Layout}
use Rattle.pk_values.specs.declared.cells.Value.{Value}
use Rattle.column_page.specs.declared.footers.BlockMark.{BlockMark}
use Rattle.column_page.specs.declared.footers.Footer.{Footer}
use Rattle.segment_form.specs.Segments.{block_marks, blocks_of, footer_of, segment_file, AreSegmentRows}
use Rattle.segment_read.specs.Blocks.{AreBlockRows}
use Rattle.segment_read.specs.Reads.{block_in}
use Rattle.segment_read.specs.Rows.{AreBlocks, AreRowsBefore, IsSegmentOf}
use Rattle.segment_form.proofs.Blocks.{length-block_marks}
use Rattle.segment_form.proofs.RowsInBlocks.{all_joined}
use Rattle.segment_read.proofs.Intact.{block_there}
use Rattle.segment_read.proofs.Whole.{rows_in}

-- the marks tell of these blocks
abbrev pub TellOf : Layout → List ℕ → List BlockMark → List (List (List Value)) → Type 0
TellOf s file ms cs = (i : ℕ) (mark : BlockMark) (c : List (List Value)) → slice_get ms i ≡ Some mark → slice_get cs i ≡ Some c → AreBlockRows s mark (block_in file mark) c

-- the first blocks that are read are the first blocks of the file
pub same_front : (s : Layout) (file : List ℕ) (n : ℕ) (ms : List BlockMark) (bs cs : List (List (List Value))) → length ms ≡ length cs → AreBlocks s file (take n ms) bs → TellOf s file ms cs → bs ≡ take n cs
same_front s file zero ms [] cs e are tell = refl
same_front s file zero ms (b ∷ bs) cs e are tell = absurd are
same_front s file (suc n) [] [] [] e are tell = refl
same_front s file (suc n) [] [] (c ∷ cs) e are tell = absurd (omega arith)
same_front s file (suc n) [] (b ∷ bs) cs e are tell = absurd are
same_front s file (suc n) (m ∷ ms) [] cs e are tell = absurd are
same_front s file (suc n) (m ∷ ms) (b ∷ bs) [] e are tell = absurd (omega arith)
same_front s file (suc n) (m ∷ ms) (b ∷ bs) (c ∷ cs) e are tell =
    ap (λ (x : List (List Value)). x ∷ bs) (are.0.only c (tell 0 m c refl refl))
    ∙ ap (λ (t : List (List (List Value))). c ∷ t) (same_front s file n ms bs cs (omega arith) are.1 (λ i mark d got there. tell (suc i) mark d got there))

-- the blocks before a place
pub same_before : (s : Layout) (rows : List (List Value)) (n : ℕ) (found : List (List Value)) → AreSegmentRows s rows → AreRowsBefore s (footer_of s rows) (segment_file s rows) n found → found ≡ rows_in (take n (blocks_of rows))
same_before s rows n found are before =
    sym before.joined
    ∙ ap (λ (bs : List (List (List Value))). rows_in bs) (same_front s (segment_file s rows) n (block_marks s 0 (blocks_of rows)) before.blocks (blocks_of rows) (length-block_marks s 0 (blocks_of rows)) before.are
    (λ i mark b got there. block_there s rows i mark b are got there))

pub same_rows : (s : Layout) (rows found : List (List Value)) → AreSegmentRows s rows → AreRowsBefore s (footer_of s rows) (segment_file s rows) (length (footer_of s rows).blocks) found → found ≡ rows
same_rows s rows found are before =
    let n = length (block_marks s 0 (blocks_of rows)) in
    let counted : n ≡ length (blocks_of rows) = length-block_marks s 0 (blocks_of rows) in
    same_before s rows n found are before ∙ ap (λ (bs : List (List (List Value))). rows_in bs) (take_all n (blocks_of rows) (omega arith)) ∙ all_joined rows

-- the rows that are read of a segment's file are the segment's
pub rows_of_segment : (s : Layout) (f : Footer) (file : List ℕ) (rows found : List (List Value)) → IsSegmentOf s f file rows → AreRowsBefore s f file (length f.blocks) found → found ≡ rows
rows_of_segment s f file rows found is before =
    let its = subst (λ (x : Footer). AreRowsBefore s x file (length x.blocks) found) is.footer_is before in
    same_rows s rows found is.are (subst (λ (bytes : List ℕ). AreRowsBefore s (footer_of s rows) bytes (length (footer_of s rows).blocks) found) is.file_is its)
