-- The file of a segment's rows has their footer, and its blocks are theirs.
use Rattle.std.proofs.Common.{◌≡◌, ℕ, zero, suc, ◌+◌, ◌-◌, ◌≤◌, List, [], ◌∷◌, ◌++◌, All, IsTrue, Some, length, get_or, take, drop, min, refl, sym, subst, ap, ◌∙◌, append_assoc, arith, length-append, length-drop, slice_get}
use Rattle.std.specs.List.{flat_map}
use Rattle.std.proofs.lemmas.List.{drop-drop, drop_at, length-take, take_at}
use Rattle.std.proofs.lemmas.List.Elements.{All-cons, All-drop, All-get_or, All-nil, All-take}
use Rattle.std.proofs.lemmas.Option.{get_or_from_slice_get, slice_get_within}
use Rattle.pk_values.specs.Schemas.{fits_row, Layout}
use Rattle.pk_values.specs.declared.cells.Value.{Value}
use Rattle.column_page.specs.FooterReading.{IsSegmentFooter}
use Rattle.column_page.specs.declared.footers.BlockMark.{BlockMark}
use Rattle.segment_form.specs.Segments.{block_body, block_file, block_mark, block_marks, blocks_for, blocks_from, blocks_of, footer_of, segment_file, tail_of, AreSegmentRows, KeysRise}
use Rattle.segment_read.specs.Blocks.{AreBlockRows}
use Rattle.segment_read.specs.Footers.{blocks_end, HasFooter}
use Rattle.segment_read.specs.Reads.{block_in}
use Rattle.segment_form.proofs.Bodies.{length-block_file}
use Rattle.segment_read.proofs.Whole.{one_less}

ends_told : (s : Layout) (at : ℕ) (bs : List (List (List Value))) → at + length (flat_map (block_file s) bs) ≡ blocks_end at (block_marks s at bs)
ends_told s at [] = omega arith
ends_told s at (b ∷ bs) =
    let next = at + length (block_file s b) in
    let here : at + length (block_file s b ++ flat_map (block_file s) bs) ≡ next + length (flat_map (block_file s) bs) = omega (arith, length-append (block_file s b) (flat_map (block_file s) bs)) in
    let there : next ≡ at + length (block_body s b) + 32 = omega (arith, length-block_file s b) in
    here ∙ ends_told s next bs ∙ ap (λ (k : ℕ). blocks_end k (block_marks s next bs)) there

pub has_its_footer : (s : Layout) (rows : List (List Value)) → IsSegmentFooter (footer_of s rows) → HasFooter s (footer_of s rows) (segment_file s rows)
has_its_footer s rows is = record {
  is = is;
  columns = refl;
  blocks = flat_map (block_file s) (blocks_of rows);
  ends = none_before (length (flat_map (block_file s) (blocks_of rows))) ∙ ends_told s 0 (blocks_of rows);
  split = refl;
}
  where
    none_before : (k : ℕ) → k ≡ 0 + k
    none_before k = omega arith

-- ---- the rows of each block

rise-tail : (s : Layout) (a : List Value) (rows : List (List Value)) → KeysRise s (a ∷ rows) → KeysRise s rows
rise-tail s a [] rise = tt
rise-tail s a (b ∷ rows) rise = rise.1

rise-drop : (s : Layout) (k : ℕ) (rows : List (List Value)) → KeysRise s rows → KeysRise s (drop k rows)
rise-drop s zero rows rise = rise
rise-drop s (suc k) [] rise = tt
rise-drop s (suc k) (a ∷ rows) rise = rise-drop s k rows (rise-tail s a rows rise)

rise-take : (s : Layout) (k : ℕ) (rows : List (List Value)) → KeysRise s rows → KeysRise s (take k rows)
rise-take s zero rows rise = tt
rise-take s (suc k) [] rise = tt
rise-take s (suc zero) (a ∷ rows) rise = tt
rise-take s (suc (suc k)) (a ∷ []) rise = tt
rise-take s (suc (suc k)) (a ∷ b ∷ rows) rise = (rise.0, rise-take s (suc k) (b ∷ rows) rise.1)

record IsBlock (s : Layout) (rows : List (List Value)) : Type 0 where
  fit : All (λ row. IsTrue (fits_row s row)) rows
  rise : KeysRise s rows
  some : 1 ≤ length rows
  few : length rows ≤ 1024

are_blocks : (s : Layout) (n : ℕ) (rows : List (List Value)) → All (λ row. IsTrue (fits_row s row)) rows → KeysRise s rows → blocks_for (length rows) ≡ n → All (IsBlock s) (blocks_from n rows)
are_blocks s zero rows fit rise is = All-nil (IsBlock s)
are_blocks s (suc n) rows fit rise is =
    let long : length (take 1024 rows) ≡ min 1024 (length rows) = length-take 1024 rows in
    let left : length (drop 1024 rows) ≡ length rows - 1024 = length-drop 1024 rows in
    let some : 1 ≤ length rows = omega arith in
    let less = one_less (length rows) (min 1024 (length rows)) (omega arith) refl in
    let same : length rows - 1024 ≡ length rows - min 1024 (length rows) = omega arith in
    let rest : suc (blocks_for (length (drop 1024 rows))) ≡ suc n = ap (λ (k : ℕ). suc (blocks_for k)) (left ∙ same) ∙ less ∙ is in
    All-cons (IsBlock s) (take 1024 rows) (blocks_from n (drop 1024 rows))
    (record { fit = All-take (λ row. IsTrue (fits_row s row)) 1024 rows fit; rise = rise-take s 1024 rows rise; some = omega arith; few = omega arith })
    (are_blocks s n (drop 1024 rows) (All-drop (λ row. IsTrue (fits_row s row)) 1024 rows fit) (rise-drop s 1024 rows rise) (omega arith))

abbrev bytes_before : Layout → ℕ → List (List (List Value)) → ℕ
bytes_before s i bs = length (flat_map (block_file s) (take i bs))

-- the mark in a place is that of the block there
mark_there : (s : Layout) (at i : ℕ) (bs : List (List (List Value))) (mark : BlockMark) (b : List (List Value)) → slice_get (block_marks s at bs) i ≡ Some mark → slice_get bs i ≡ Some b → mark ≡ block_mark s (at + bytes_before s i bs) b
mark_there s at i [] mark b got there = cc
mark_there s at zero (x ∷ bs) mark b got there =
    let same : x ≡ b = cc in
    let place : at ≡ at + 0 = omega arith in
    let is : block_mark s at x ≡ mark = cc in
    sym is ∙ ap (λ (r : List (List Value)). block_mark s at r) same ∙ ap (λ (k : ℕ). block_mark s k b) place
mark_there s at (suc i) (x ∷ bs) mark b got there =
    let place : at + length (block_file s x) + bytes_before s i bs ≡ at + length (block_file s x ++ flat_map (block_file s) (take i bs)) = omega (arith, length-append (block_file s x) (flat_map (block_file s) (take i bs))) in
    mark_there s (at + length (block_file s x)) i bs mark b got there ∙ ap (λ (k : ℕ). block_mark s k b) place

-- the bytes there are those of the block
bytes_there : (s : Layout) (i : ℕ) (bs : List (List (List Value))) (b : List (List Value)) (tail : List ℕ) → slice_get bs i ≡ Some b → take (length (block_file s b)) (drop (bytes_before s i bs) (flat_map (block_file s) bs ++ tail)) ≡ block_file s b
bytes_there s i [] b tail there = cc
bytes_there s zero (x ∷ bs) b tail there =
    let same : x ≡ b = cc in
    ap (take (length (block_file s b))) (append_assoc (block_file s x) (flat_map (block_file s) bs) tail)
    ∙ ap (λ (r : List (List Value)). take (length (block_file s b)) (block_file s r ++ (flat_map (block_file s) bs ++ tail))) same
    ∙ take_at (block_file s b) (flat_map (block_file s) bs ++ tail) (length (block_file s b)) refl
bytes_there s (suc i) (x ∷ bs) b tail there =
    let front = block_file s x in
    let rest = flat_map (block_file s) bs in
    ap (λ (t : List ℕ). take (length (block_file s b)) (drop (length (front ++ flat_map (block_file s) (take i bs))) t)) (append_assoc front rest tail)
    ∙ ap (λ (k : ℕ). take (length (block_file s b)) (drop k (front ++ (rest ++ tail)))) (length-append front (flat_map (block_file s) (take i bs)))
    ∙ ap (take (length (block_file s b))) (sym (drop-drop (bytes_before s i bs) (length front) (front ++ (rest ++ tail))) ∙ ap (drop (bytes_before s i bs)) (drop_at front (rest ++ tail) (length front) refl))
    ∙ bytes_there s i bs b tail there

pub block_there : (s : Layout) (rows : List (List Value)) (i : ℕ) (mark : BlockMark) (b : List (List Value)) → AreSegmentRows s rows → slice_get (block_marks s 0 (blocks_of rows)) i ≡ Some mark → slice_get (blocks_of rows) i ≡ Some b
    → AreBlockRows s mark (block_in (segment_file s rows) mark) b
block_there s rows i mark b are got there =
    let bs = blocks_of rows in
    let is = mark_there s 0 i bs mark b got there in
    let all = are_blocks s (blocks_for (length rows)) rows are.fit are.rise refl in
    let one : IsBlock s (get_or bs i b) = All-get_or (IsBlock s) bs i b (slice_get_within bs i b there) all in
    let block : IsBlock s b = subst (IsBlock s) (get_or_from_slice_get bs i b b there) one in
    let place : mark.place ≡ bytes_before s i bs = zero_plus mark.place (bytes_before s i bs) (ap (λ (x : BlockMark). x.place) is) in
    let long : mark.length + 32 ≡ length (block_file s b) = ap (λ (x : BlockMark). x.length + 32) is ∙ sym (length-block_file s b) in
    record {
      fit = block.fit;
      rise = block.rise;
      some = block.some;
      few = block.few;
      told = ap (λ (k : ℕ). block_mark s k b) (ap (λ (x : BlockMark). x.place) is) ∙ sym is;
      written = sym (ap (λ (k : ℕ). take k (drop mark.place (segment_file s rows))) long ∙ ap (λ (k : ℕ). take (length (block_file s b)) (drop k (segment_file s rows))) place
          ∙ bytes_there s i bs b (tail_of (footer_of s rows)) there);
    }
  where
    zero_plus : (p k : ℕ) → p ≡ 0 + k → p ≡ k
    zero_plus p k e = omega arith
