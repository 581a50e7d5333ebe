-- What is read at a place by another reader of its file.
use Rattle.std.proofs.Common.{◌≡◌, refl, ap, sym, subst, ◌∙◌, ℕ, ◌/◌, ◌%◌, ◌<◌, List, Option, Some, slice_get, arith}
use Rattle.std.specs.Prelude.{Result, Ok, Err, IsErrOf}
use Rattle.column_page.specs.declared.footers.BlockMark.{BlockMark}
use Rattle.column_page.specs.declared.footers.Footer.{Footer}
use Rattle.dev_traits.specs.Reader.{ReaderView}
use Rattle.dev_traits.specs.declared.faults.Damaged.{Damaged}
use Rattle.dev_traits.specs.declared.faults.Part.TheVariants as part
use Rattle.dev_traits.specs.declared.faults.ReadFault.{ReadFault}
use Rattle.dev_traits.specs.declared.faults.ReadFault.TheVariants as read
use Rattle.index_level0.specs.declared.place.Place.{Place}
use Rattle.pk_values.specs.Schemas.{Layout}
use Rattle.pk_values.specs.declared.cells.Value.{Value}
use Rattle.segment_read.specs.Blocks.{BlockShown, IsRowOf}
use Rattle.segment_read.specs.Reads.{IsDamage, OfBlock, OfFile, OnDamage, Reading, block_in}
use Rattle.segment_read.specs.Rows.{IsNoSegment, IsSegmentOf}
use Rattle.tablet_state.specs.Moving.{HasAt, HasRowOf, IsCopyOf}
use Rattle.tablet_state.specs.State.{SegmentView, segment_of}
use Rattle.core_partial.specs.Moving.{IsBlockOf, IsRowAt}

some_one : {X : Type 0} (x y : X) → Some x ≡ Some y → x ≡ y
some_one x y e = cc

pub on_damage : (e : ReadFault) (P Q : Damaged → Type 0) → ((d : Damaged) → P d → Q d) → OnDamage e P → OnDamage e Q
on_damage read.StoreFault P Q f h = tt
on_damage (read.Damaged d) P Q f h = f d h
on_damage read.Memory P Q f h = tt

-- the row is one of the copy's file
pub row_within : (segs : List SegmentView) (p : Place) (copy : SegmentView) → HasRowOf segs p → IsCopyOf segs p.segment copy → p.row < copy.footer.rows
row_within segs p copy has is =
    let same : has.segment ≡ is.segment = some_one has.segment is.segment (sym has.there ∙ is.there) in
    subst (λ (f : Footer). p.row < f.rows) (ap (λ (g : SegmentView). g.footer) same ∙ sym is.footer) has.within

pub row_at_place : (s : Layout) (segs : List SegmentView) (p : Place) (copy : SegmentView) (row : List Value) → IsCopyOf segs p.segment copy
    → OfFile copy.reader (λ file. OfBlock copy.footer (p.row / 1024) (λ mark. IsRowOf s mark (block_in file mark) (p.row % 1024) row)) → IsRowAt s segs p row
row_at_place s segs p copy row is read g there file told mark at =
    let same : is.segment ≡ g = some_one is.segment g (sym is.there ∙ there) in
    read file (is.same.bytes ∙ ap (λ (x : SegmentView). x.reader.bytes) same ∙ told) mark
    (ap (λ (f : Footer). slice_get f.blocks (p.row / 1024)) (is.footer ∙ ap (λ (x : SegmentView). x.footer) same) ∙ at)

pub damage_there : (s : Layout) (segs : List SegmentView) (p : Place) (copy : SegmentView) (d : Damaged) → IsCopyOf segs p.segment copy
    → IsDamage copy.number (part.Block (p.row / 1024)) (λ shown. OfFile copy.reader (λ file. OfBlock copy.footer (p.row / 1024) (λ mark. BlockShown s mark (block_in file mark) shown))) d → IsBlockOf s segs p d
damage_there s segs p copy d is h = record {
  segment = is.segment;
  there = is.there;
  damage = record {
    file_is = h.file_is ∙ is.number;
    part_is = h.part_is;
    shows = λ file told mark at. h.shows file (is.same.bytes ∙ told) mark (ap (λ (f : Footer). slice_get f.blocks (p.row / 1024)) is.footer ∙ at);
  };
}

pub row_of_book : (s : Layout) (copy : SegmentView) (row : ℕ) (found : List Value) (there : Option (List Value)) → HasAt s copy row there
    → OfFile copy.reader (λ file. (rows : List (List Value)) → IsSegmentOf s copy.footer file rows → slice_get rows row ≡ Some found) → there ≡ Some found
row_of_book s copy row found there has read = sym has.at ∙ read has.file has.told has.rows has.is

pub no_damage : (s : Layout) (copy : SegmentView) (row : ℕ) (there : Option (List Value)) → HasAt s copy row there → OfFile copy.reader (IsNoSegment s copy.footer) → ⊥
no_damage s copy row there has none = none has.file has.told has.rows has.is

-- ---- what a new reader counted

pub reading_well : {T : Type 0} (r : Result T ReadFault) (old new : ReaderView) → old.faults ≡ 0 → Reading 1 old new r → (IsErrOf r read.StoreFault → ⊥) → new.faults ≡ 0
reading_well (Ok x) old new none h good = h.unfailed ∙ none
reading_well (Err read.StoreFault) old new none h good = absurd (good refl)
reading_well (Err (read.Damaged d)) old new none h good = h.well (λ e. cc) ∙ none
reading_well (Err read.Memory) old new none h good = h.well (λ e. cc) ∙ none

pub reading_failed : {T : Type 0} (r : Result T ReadFault) (old new : ReaderView) → old.faults ≡ 0 → Reading 1 old new r → IsErrOf r read.StoreFault → new.faults ≡ 1
reading_failed (Ok x) old new none h is = absurd (cc is)
reading_failed (Err read.StoreFault) old new none h is = let counts = h.failed refl in omega (arith, counts, none)
reading_failed (Err (read.Damaged d)) old new none h is = absurd (cc is)
reading_failed (Err read.Memory) old new none h is = absurd (cc is)
