-- All rows of a segment, block by block.
use Rattle.std.specs.Prelude.{◌≡◌, ◌⊎◌, ℕ, ◌<◌, List, [], ◌∷◌, ◌++◌, length, take, ⊤}
use Rattle.std.specs.List.{flat_map}
use Rattle.pk_values.specs.Schemas.{Layout}
use Rattle.pk_values.specs.declared.cells.Value.{Value}
use Rattle.column_page.specs.declared.footers.BlockMark.{BlockMark}
use Rattle.column_page.specs.declared.footers.Footer.{Footer}
use Rattle.dev_traits.specs.declared.faults.Damaged.{Damaged}
use Rattle.dev_traits.specs.declared.faults.Part.TheVariants as part
use Rattle.dev_traits.specs.declared.faults.Shown.{Shown}
use Rattle.dev_traits.specs.declared.faults.Shown.TheVariants.{Form}
use Rattle.segment_form.specs.Segments.{footer_of, segment_file, AreSegmentRows, KeysRise}
use Rattle.segment_read.specs.Blocks.{AreTheRows, BlockShown}
use Rattle.dev_traits.specs.Reader.{ReaderView}
use Rattle.segment_read.specs.Reads.{block_in, OfBlock, OfFile}

-- each block that the marks tell of has these rows
abbrev pub AreBlocks : Layout → List ℕ → List BlockMark → List (List (List Value)) → Type 0
AreBlocks s file [] [] = ⊤
AreBlocks s file [] (b ∷ bs) = ⊥
AreBlocks s file (m ∷ ms) [] = ⊥
AreBlocks s file (m ∷ ms) (b ∷ bs) = AreTheRows s m (block_in file m) b × AreBlocks s file ms bs

-- the rows of the first n blocks, in their order, with keys that rise
pub record AreRowsBefore (s : Layout) (f : Footer) (file : List ℕ) (n : ℕ) (rows : List (List Value)) : Type 0 where
  pub blocks : List (List (List Value))
  pub are : AreBlocks s file (take n f.blocks) blocks
  pub joined : flat_map (λ b. b) blocks ≡ rows
  pub rise : KeysRise s rows

-- the block has rows, but their keys aren't all above those of the blocks before
pub record FallsBack (s : Layout) (bytes : List ℕ) (mark : BlockMark) (before : List (List Value)) (shown : Shown) : Type 0 where
  pub form : shown ≡ Form
  pub rows : List (List Value)
  pub are : AreTheRows s mark bytes rows
  pub falls : KeysRise s (before ++ rows) → ⊥

-- the first block that is damaged or whose keys aren't above those before
pub record FailsAt (s : Layout) (f : Footer) (file : List ℕ) (n : ℕ) (shown : Shown) : Type 0 where
  pub before : List (List Value)
  pub are : AreRowsBefore s f file n before
  pub shows : OfBlock f n (λ mark. BlockShown s mark (block_in file mark) shown ⊎ FallsBack s (block_in file mark) mark before shown)

-- rows of which this is the footer and the file
pub record IsSegmentOf (s : Layout) (f : Footer) (file : List ℕ) (rows : List (List Value)) : Type 0 where
  pub are : AreSegmentRows s rows
  pub footer_is : f ≡ footer_of s rows
  pub file_is : file ≡ segment_file s rows

-- a damage of one of the blocks, the first that fails
pub record IsRowsDamage (s : Layout) (f : Footer) (number : ℕ) (reader : ReaderView) (damaged : Damaged) : Type 0 where
  pub block : ℕ
  pub there : block < length f.blocks
  pub file_is : damaged.file ≡ number
  pub part_is : damaged.part ≡ part.Block block
  pub shows : OfFile reader (λ file. FailsAt s f file block damaged.shown)

-- no rows have this footer and this file
abbrev pub IsNoSegment : Layout → Footer → List ℕ → Type 0
IsNoSegment s f file = (rows : List (List Value)) → IsSegmentOf s f file rows → ⊥

-- rows of which this is the file
pub record IsFileOf (s : Layout) (file : List ℕ) (rows : List (List Value)) : Type 0 where
  pub are : AreSegmentRows s rows
  pub file_is : file ≡ segment_file s rows

-- the file of no rows
abbrev pub IsNoFile : Layout → List ℕ → Type 0
IsNoFile s file = (rows : List (List Value)) → IsFileOf s file rows → ⊥
