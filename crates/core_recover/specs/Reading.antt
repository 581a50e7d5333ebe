-- What is read of a store: its journal, its files and their live rows.
use Rattle.std.specs.Prelude.{◌≡◌, ℕ, List, [], ◌∷◌, ◌++◌, map, None}
use Rattle.std.specs.List.{AllByRecursion}
use Rattle.pk_values.specs.Schemas.{Layout, schema_fault}
use Rattle.dev_traits.specs.Image.{Image, file}
use Rattle.dev_traits.specs.View.{View}
use Rattle.pk_model.specs.declared.books.Book.{Book}
use Rattle.rowsets.specs.Live.{Files}
use Rattle.rowsets.specs.Indexing.{CodeMap}
use Rattle.rowsets.specs.Marks.{Rises}
use Rattle.journal_form.specs.declared.records.ListedFile.{ListedFile}
use Rattle.journal_form.specs.declared.records.NewFile.{NewFile}
use Rattle.journal_form.specs.Versions.{Rowset as ListedRowset, files_of}
use Rattle.journal_form.specs.Meaning.{Standing}
use Rattle.store_files.specs.Indexes.{codes_of}
use Rattle.store_files.specs.Keys.{HaveShortCodes}
use Rattle.tablet_state.specs.Contents.{Contents, contents_of}
use Rattle.tablet_state.specs.Stands.{AreSegments, part_of}
use Rattle.tablet_state.specs.State.{AreReadAs, HasFewFiles, IsAttached, IsInHand, SegmentView, footers_of, reader_faults}
use Rattle.tablet_state.specs.Opening.{IsRead}
use Rattle.core_recover.specs.declared.replaying.Replayed.{Replayed}
use Rattle.core_recover.specs.Indexing.{numbers_in}
use Rattle.core_recover.specs.Naming.{IsAmong, told_in}
use Rattle.core_recover.specs.Replaying.{IsReplayed}

-- the rowsets of the kept versions, the current one last
abbrev pub versions_of : Replayed → List (List ListedRowset)
versions_of r = r.older.items ++ r.current ∷ []

-- the files that they name
abbrev pub named : Replayed → List NewFile
named r = told_in (versions_of r)

-- what a state holds of what was replayed, with an index
abbrev pub contents : Replayed → CodeMap → Contents
contents r codes = contents_of r.schema 1 0 r.edit r.next_file r.floor r.older.items r.current codes

-- The segments are those of all files that the kept versions name, in the order of their numbers; none of their readers has failed.
pub record HasFiles (r : Replayed) (segments : List SegmentView) : Type 0 where
  pub schema : schema_fault r.schema.columns r.schema.keys ≡ None
  pub few : AllByRecursion HasFewFiles (versions_of r)
  pub in_hand : AllByRecursion (IsInHand (footers_of segments)) (named r)
  pub rise : Rises (numbers_in segments)
  pub attached : AllByRecursion (IsAttached r.schema) segments
  pub only : AllByRecursion (λ g. (rows : ℕ) × IsAmong (named r) g.number rows) segments
  pub unfailed : reader_faults segments ≡ 0

-- the segment's reader reads the file of its number
pub record IsReading (image : Image) (g : SegmentView) : Type 0 where
  pub bytes : g.reader.bytes ≡ file image g.number

-- the files of lawful rows, and their live rows have keys with short codes
pub record AreFiles (r : Replayed) (stored : Files) (image : Image) : Type 0 where
  pub segments : AreSegments r.schema stored (named r) image
  pub short : AllByRecursion (λ f. HaveShortCodes r.schema f.dead 0 (stored f.file)) (files_of r.current)

-- the segments read these rows
abbrev pub ReadsFiles : Replayed → Files → List SegmentView → Type 0
ReadsFiles r stored segments = AreReadAs r.schema stored segments (named r)

-- and the index has the places of the live ones of the current version
abbrev pub IsIndexed : Replayed → Files → CodeMap → Type 0
IsIndexed r stored codes = codes ≡ codes_of r.schema stored (map part_of (files_of r.current))

-- What was read of an image that stands for a book of this schema: its standing, its files' rows, and their live ones' places.
pub record IsReadOf (r : Replayed) (segments : List SegmentView) (codes : CodeMap) (s : Layout) (m : Standing) (stored : Files) : Type 0 where
  pub schema : r.schema ≡ s
  pub means : IsReplayed r m
  pub reads : ReadsFiles r stored segments
  pub indexed : IsIndexed r stored codes

-- Over the store that is left the state is one that was read of an image that stands for the book.
pub record IsOpened (view : View) (area end : ℕ) (c : Contents) (segments : List SegmentView) (s : Layout) (b : Book) : Type 0 where
  pub schema : c.schema ≡ s
  pub image : Image
  pub read : IsRead view area end c segments b image
