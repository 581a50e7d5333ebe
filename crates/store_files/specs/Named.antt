-- What the files of a store are, by their numbers and numbers of rows.
use Rattle.std.specs.Prelude.{◌≡◌, ◌≢◌, ◌⊎◌, ℕ, ◌+◌, List, [], ◌∷◌, length, slice_get, Option, Some, None, IsSome, ⊤}
use Rattle.std.specs.List.{AllByRecursion}
use Rattle.pk_values.specs.Schemas.{Layout}
use Rattle.pk_values.specs.declared.cells.Value.{Value}
use Rattle.column_page.specs.declared.footers.Footer.{Footer}
use Rattle.dev_traits.specs.Image.{Image, file}
use Rattle.dev_traits.specs.Reader.{ReaderView}
use Rattle.dev_traits.specs.View.{View, Told}
use Rattle.dev_traits.specs.declared.faults.Damaged.{Damaged}
use Rattle.dev_traits.specs.declared.faults.Part.TheVariants as part
use Rattle.dev_traits.specs.declared.faults.Shown.{Shown}
use Rattle.dev_traits.specs.declared.faults.Shown.TheVariants.{Form, Absent}
use Rattle.segment_read.specs.Footers.{FooterShown, HasFooter}
use Rattle.segment_read.specs.Reads.{IsDamage, KnowsFooter}
use Rattle.segment_read.specs.Rows.{IsFileOf, IsSegmentOf}
use Rattle.segment_read.specs.declared.segments.Segment.{Segment}
use Rattle.rowsets.specs.Live.{Files}
use Rattle.store_files.specs.declared.attaching.NamedFile.{NamedFile}

-- the file is there, and is the segment of these rows, as many as told
pub record IsStored (s : Layout) (f : NamedFile) (rows : List (List Value)) (image : Image) : Type 0 where
  pub bytes : List ℕ
  pub there : file image f.number ≡ Some bytes
  pub is : IsFileOf s bytes rows
  pub counted : length rows ≡ f.rows

-- the file has the footer of another number of rows
pub record HasOtherRows (s : Layout) (rows : ℕ) (bytes : List ℕ) (shown : Shown) : Type 0 where
  pub form : shown ≡ Form
  pub footer : Footer
  pub has : HasFooter s footer bytes
  pub other : footer.rows ≢ rows

-- how a file that is told to have so many rows is damaged: it isn't there, its footer is damaged, or it tells of other rows
abbrev pub FileShown : Layout → ℕ → Option (List ℕ) → Shown → Type 0
FileShown s rows None shown = shown ≡ Absent
FileShown s rows (Some bytes) shown = FooterShown s bytes shown ⊎ HasOtherRows s rows bytes shown

-- the damage is that of this file's footer
abbrev pub IsFileDamage : Layout → View → NamedFile → Damaged → Type 0
IsFileDamage s view f damaged = IsDamage f.number part.Footer (λ shown. Told view (λ image. FileShown s f.rows (file image f.number) shown)) damaged

-- where the store tells, the file isn't that of so many rows
abbrev pub IsNotStored : Layout → View → NamedFile → Type 0
IsNotStored s view f = Told view (λ image. (rows : List (List Value)) → IsStored s f rows image → ⊥)

-- The segment is attached to this file: its reader is new but for the reads of the footer, and where the store tells, the file is there and the reader
-- reads it.
pub record IsAttached {R : Type 0} (read : R → ReaderView) (s : Layout) (view : View) (f : NamedFile) (g : Segment R) : Type 0 where
  pub number : g.number ≡ f.number
  pub footer : KnowsFooter s (read g.reader) g.footer
  pub counted : g.footer.rows ≡ f.rows
  pub bytes : Told view (λ image. (read g.reader).bytes ≡ file image f.number)
  pub there : Told view (λ image. IsSome (file image f.number))
  -- of the file of rows it is their segment
  pub stands : Told view (λ image. (rows : List (List Value)) → (stored : IsStored s f rows image) → IsSegmentOf s g.footer stored.bytes rows)
  pub unfailed : (read g.reader).faults ≡ 0
  pub reads : (read g.reader).reads ≡ 2

-- the segments are attached to these files, one each
abbrev pub AreAttached : {R : Type 0} → (R → ReaderView) → Layout → View → List NamedFile → List (Segment R) → Type 0
AreAttached read s view [] [] = ⊤
AreAttached read s view [] (segment ∷ segments) = ⊥
AreAttached read s view (f ∷ files) [] = ⊥
AreAttached read s view (f ∷ files) (segment ∷ segments) = IsAttached read s view f segment × AreAttached read s view files segments

-- the files are there, and are the segments of the rows that are stored under their numbers
abbrev pub AreStored : Layout → Files → List NamedFile → Image → Type 0
AreStored s stored files image = AllByRecursion (λ f. IsStored s f (stored f.number) image) files

-- the damage is that of one of these files
abbrev pub IsDamageOfOne : Layout → View → List NamedFile → Damaged → Type 0
IsDamageOfOne s view files damaged = (i : ℕ) × (f : NamedFile) × (slice_get files i ≡ Some f) × IsFileDamage s view f damaged

-- how often the readers of segments have failed
abbrev pub faults_in : {R : Type 0} → (R → ReaderView) → List (Segment R) → ℕ
faults_in read [] = 0
faults_in read (segment ∷ segments) = (read segment.reader).faults + faults_in read segments
