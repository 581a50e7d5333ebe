-- Which damage opening a store tells: what the damaged bytes are, in the words of the records that name them.
use Rattle.std.specs.Prelude.{◌≡◌, ◌⊎◌, ℕ, List, slice_get, Option, Some, None}
use Rattle.pk_values.specs.Schemas.{Layout}
use Rattle.column_page.specs.declared.footers.BlockMark.{BlockMark}
use Rattle.column_page.specs.declared.footers.Footer.{Footer}
use Rattle.dev_traits.specs.Image.{Image, file}
use Rattle.dev_traits.specs.declared.faults.Damaged.{Damaged}
use Rattle.dev_traits.specs.declared.faults.Part.TheVariants as part
use Rattle.segment_read.specs.Blocks.{BlockShown}
use Rattle.segment_read.specs.Footers.{HasFooter}
use Rattle.segment_read.specs.Reads.{block_in}
use Rattle.journal_form.specs.declared.records.NewFile.{NewFile}
use Rattle.journal_form.specs.declared.records.ListedFile.{ListedFile}
use Rattle.journal_form.specs.Meaning.{Standing}
use Rattle.journal_form.specs.Versions.{files_of}
use Rattle.version_journal.specs.Images.{IsSaid}
use Rattle.version_journal.specs.Reading.{IsDamagedIn, damage_of}
use Rattle.store_files.specs.Keys.{HasLive, HasLongKey, IsKeysDamage}
use Rattle.store_files.specs.Named.{FileShown}
use Rattle.tablet_state.specs.Stands.{all_versions, files_in}
use Rattle.tablet_state.specs.State.{SegmentView, segment_of}
use Rattle.core_recover.specs.Naming.{IsAmong}

-- a file stands in a list
abbrev pub StandsIn : List ListedFile → ListedFile → Type 0
StandsIn files f = (i : ℕ) × (slice_get files i ≡ Some f)

-- The damage is that of the footer of one of these files: the file isn't there, or its last bytes keep another digest than they have, or are no
-- footer, or the footer tells of another number of rows.
pub record IsFooterDamage (s : Layout) (files : List NewFile) (image : Image) (damaged : Damaged) : Type 0 where
  pub rows : ℕ
  pub named : IsAmong files damaged.file rows
  pub part_is : damaged.part ≡ part.Footer
  pub shows : FileShown s rows (file image damaged.file) damaged.shown

-- The damage is that of a block of one of these files, which is there with its footer. The block has a live row. It keeps another digest than it
-- has, or no rows have its bytes, or the key of a live one of its rows has a code that is too long.
pub record IsLiveBlockDamage (s : Layout) (files : List ListedFile) (image : Image) (damaged : Damaged) : Type 0 where
  pub named : ListedFile
  pub among : StandsIn files named
  pub file_is : damaged.file ≡ named.file
  pub bytes : List ℕ
  pub there : file image named.file ≡ Some bytes
  pub footer : Footer
  pub has : HasFooter s footer bytes
  pub rows : footer.rows ≡ named.rows
  pub block : ℕ
  pub mark : BlockMark
  pub marked : slice_get footer.blocks block ≡ Some mark
  pub part_is : damaged.part ≡ part.Block block
  pub live : HasLive named.dead footer.rows block
  pub shows : BlockShown s mark (block_in bytes mark) damaged.shown ⊎ HasLongKey s named.dead block mark (block_in bytes mark) damaged.shown

-- what some records name is damaged: a file of the kept versions, or a block of the current one
abbrev pub IsNamedDamage : Layout → List NewFile → List ListedFile → Image → Damaged → Type 0
IsNamedDamage s files current image damaged =
    IsFooterDamage s files image damaged ⊎ IsLiveBlockDamage s current image damaged

-- the files that the kept versions name
abbrev pub kept_files : Standing → List NewFile
kept_files m = files_in (all_versions m.versions)

-- Of an image: an area of its journal says nothing, or what the journal says names what is damaged.
abbrev pub IsDamageOf : Image → Damaged → Type 0
IsDamageOf image damaged = ((a : ℕ) × (damaged ≡ damage_of a) × IsDamagedIn a image)
    ⊎ ((m : Standing) × IsSaid image m × IsNamedDamage m.versions.current.schema (kept_files m) (files_of m.versions.current.rowsets) image damaged)

-- ---- as it is found

-- a file has no segment
pub record HasNoSegment (segments : List SegmentView) (f : ListedFile) : Type 0 where
  pub none : segment_of segments f.file ≡ None

-- a file's segment has a block that is damaged
pub record HasBadBlock (s : Layout) (segments : List SegmentView) (f : ListedFile) (damaged : Damaged) : Type 0 where
  pub segment : SegmentView
  pub there : segment_of segments f.file ≡ Some segment
  pub is : IsKeysDamage s segment.footer f.file f.dead segment.reader damaged

-- the damage is that of one of these files' segments
pub record IsLiveDamage (s : Layout) (files : List ListedFile) (segments : List SegmentView) (damaged : Damaged) : Type 0 where
  pub named : ListedFile
  pub among : StandsIn files named
  pub is : HasNoSegment segments named ⊎ HasBadBlock s segments named damaged
