-- What opening a store holds, keeps and counts.
use Rattle.std.specs.Prelude.{◌≡◌, ◌⊎◌, ℕ, ◌-◌, ◌^◌, min, List, [], ◌∷◌, map, Option, Some, None, ⊤}
use Rattle.std.specs.List.{AllByRecursion}
use Rattle.pk_values.specs.Schemas.{Layout}
use Rattle.column_page.specs.declared.footers.Footer.{Footer}
use Rattle.dev_traits.specs.Causes.{Counts}
use Rattle.dev_traits.specs.Image.{Image, area_of, file}
use Rattle.dev_traits.specs.View.{View}
use Rattle.segment_read.specs.Footers.{HasFooter}
use Rattle.journal_form.specs.declared.records.NewFile.{NewFile}
use Rattle.rowsets.specs.Live.{Files}
use Rattle.rowsets.specs.Marks.{Rises}
use Rattle.store_files.specs.Indexes.{codes_of}
use Rattle.journal_form.specs.Meaning.{Entry, Standing}
use Rattle.journal_form.specs.Versions.{files_of}
use Rattle.version_journal.specs.Images.{IsSaid}
use Rattle.tablet_state.specs.Contents.{Contents, standing_of}
use Rattle.tablet_state.specs.State.{IsInHand, SegmentView, Shown, faults_of, footers_of, named_files, reader_faults}
use Rattle.tablet_state.specs.Stands.{AreSegments, part_of}
use Rattle.core_recover.specs.declared.faults.OpenFault.{OpenFault}
use Rattle.core_recover.specs.declared.faults.OpenFault.TheVariants as fault
use Rattle.core_recover.specs.Areas.{IsEmptyOrBlank}
use Rattle.core_recover.specs.Creating.{first_standing}
use Rattle.core_recover.specs.Damages.{kept_files}
use Rattle.core_recover.specs.Indexing.{numbers_in}
use Rattle.core_recover.specs.Naming.{IsAmong}
use Rattle.core_recover.specs.Reading.{IsReading}

-- ---- counts

-- one more fault is counted where the store failed, and none else
abbrev pub CountsAs : OpenFault → ℕ → ℕ → Type 0
CountsAs fault.StoreFault before now = Counts 1 before now
CountsAs fault.Empty before now = now ≡ before
CountsAs (fault.Damaged damaged) before now = now ≡ before
CountsAs fault.Memory before now = now ≡ before

-- none is counted: not by the store, and the state's own maker and readers have none
pub record CountsNone {S : Type 0} (view : S → View) (before : ℕ) (st : Shown S) : Type 0 where
  pub store : (view st.store).faults ≡ before
  pub maker : st.maker_faults ≡ 0
  pub readers : reader_faults st.segments ≡ 0
  pub all : faults_of view st ≡ min before (2 ^ 64 - 1)

-- ---- what is kept

-- none of the files has the number
abbrev pub IsUnnamed : List NewFile → ℕ → Type 0
IsUnnamed files number = (rows : ℕ) → IsAmong files number rows → ⊥

-- a file is as it was; or it was forgotten, and the journal says what names it nowhere
abbrev pub IsKeptOrForgotten : Image → Image → ℕ → Type 0
IsKeptOrForgotten before after number =
    (file after number ≡ file before number)
    ⊎ ((m : Standing) × IsSaid before m × IsUnnamed (kept_files m) number × (file after number ≡ None))

-- The areas read as they did, but that an empty one may be the one byte 0; of the files those alone are forgotten that no kept version names.
pub record StillReads (before after : Image) : Type 0 where
  pub areas : (a : ℕ) → (area_of after a ≡ area_of before a) ⊎ ((area_of before a ≡ []) × (area_of after a ≡ 0 ∷ []))
  pub files : (number : ℕ) → IsKeptOrForgotten before after number

-- what is answered where nothing was forgotten
abbrev pub IsUnforgotten : OpenFault → Type 0
IsUnforgotten fault.Empty = ⊤
IsUnforgotten (fault.Damaged damaged) = ⊤
IsUnforgotten fault.StoreFault = ⊥
IsUnforgotten fault.Memory = ⊤

-- ---- what is held

-- the file is there, with a footer of as many rows as told
pub record IsThere (s : Layout) (image : Image) (f : NewFile) : Type 0 where
  pub bytes : List ℕ
  pub there : file image f.file ≡ Some bytes
  pub footer : Footer
  pub has : HasFooter s footer bytes
  pub rows : footer.rows ≡ f.rows

-- What is held is what the records mean, which are as they were. Each file that a kept version names was there with its footer, and is as it was;
-- every other file is forgotten.
pub record HoldsRecords (c : Contents) (before after : Image) : Type 0 where
  pub kept : List Entry
  pub said : IsSaid before (standing_of c kept)
  pub again : IsSaid after (standing_of c kept)
  pub there : AllByRecursion (IsThere c.schema before) (named_files c)
  pub same : AllByRecursion (λ f. file after f.file ≡ file before f.file) (named_files c)
  pub others : (number : ℕ) → IsUnnamed (named_files c) number → file after number ≡ None
  pub plan : c.plan ≡ None

-- The segments read the files of the kept versions, each the file of its own number, and have a footer of as many rows as told; there is no
-- other segment. The codes are those of the live rows of the current version's files, where the files are those of some rows.
pub record ReadsNamed (c : Contents) (segments : List SegmentView) (before : Image) : Type 0 where
  pub reading : AllByRecursion (IsReading before) segments
  pub rise : Rises (numbers_in segments)
  pub in_hand : AllByRecursion (IsInHand (footers_of segments)) (named_files c)
  pub only : AllByRecursion (λ g. (rows : ℕ) × IsAmong (named_files c) g.number rows) segments
  pub indexed : (stored : Files) → AreSegments c.schema stored (named_files c) before → c.codes ≡ codes_of c.schema stored (map part_of (files_of c.current))

-- ---- a new store

-- its one record is the creation of this table; it has no file, and its third area is empty or blank
pub record IsNewStore (s : Layout) (image : Image) : Type 0 where
  pub said : IsSaid image (first_standing s)
  pub none : (number : ℕ) → file image number ≡ None
  pub index : IsEmptyOrBlank 2 image
