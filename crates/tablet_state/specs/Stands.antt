-- Which book an image of a store stands for.
use Rattle.std.specs.Prelude.{◌≡◌, List, [], ◌∷◌, ◌++◌, map, length, Some}
use Rattle.std.specs.List.{AllByRecursion}
use Rattle.pk_values.specs.Schemas.{Layout}
use Rattle.pk_values.specs.declared.cells.Value.{Value}
use Rattle.pk_model.specs.declared.books.Book.{Book}
use Rattle.dev_traits.specs.Image.{Image, file}
use Rattle.segment_form.specs.Segments.{AreSegmentRows, segment_file}
use Rattle.rowsets.specs.Live.{Part, Version as Rowsets, Files, HasShortKeys, live, parts_of, StandsFor}
use Rattle.rowsets.specs.Books.{AreMaps}
use Rattle.journal_form.specs.declared.records.NewFile.{NewFile}
use Rattle.journal_form.specs.declared.records.ListedFile.{ListedFile}
use Rattle.journal_form.specs.Versions.{Version, Versions, files_of}
use Rattle.journal_form.specs.Meaning.{Standing}
use Rattle.version_journal.specs.Images.{IsSaid}

-- the rowsets of a version that the journal tells
abbrev pub part_of : ListedFile → Part
part_of f = record { file = f.file; dead = f.dead }

abbrev pub rowsets_of : Version → Rowsets
rowsets_of v = map (λ files. map part_of files) v.rowsets

-- the kept versions, the current one last
abbrev pub all_versions : Versions → List Version
all_versions vs = vs.older ++ vs.current ∷ []

-- a file by its number, and how many rows it is told to have
abbrev pub told_file : ListedFile → NewFile
told_file f = record { file = f.file; rows = f.rows }

-- the files that versions name
abbrev pub files_in : List Version → List NewFile
files_in [] = []
files_in (v ∷ vs) = map told_file (files_of v.rowsets) ++ files_in vs

-- the file is adopted, and is a segment of these rows, which are as many as told
pub record IsSegment (s : Layout) (rows : List (List Value)) (f : NewFile) (image : Image) : Type 0 where
  pub lawful : AreSegmentRows s rows
  pub spelled : file image f.file ≡ Some (segment_file s rows)
  pub counted : length rows ≡ f.rows

-- so is each of these files, of the rows that are stored under its number
abbrev pub AreSegments : Layout → Files → List NewFile → Image → Type 0
AreSegments s stored files image = AllByRecursion (λ f. IsSegment s (stored f.file) f image) files

-- Versions, over files with these rows, are a book's: each is of this schema and stands for its map, and no key has a code that is too long.
pub record TellsBook (s : Layout) (stored : Files) (vs : Versions) (b : Book) : Type 0 where
  pub schemas : AllByRecursion (λ v. v.schema ≡ s) (all_versions vs)
  pub floor : vs.floor ≡ b.floor
  pub older : AreMaps s (λ v. stored) b.floor (map rowsets_of vs.older) b.older
  pub current : StandsFor s (live stored (parts_of (rowsets_of vs.current))) b.current
  pub rowsets : length (rowsets_of vs.current) ≡ b.rowsets
  pub older_short : AllByRecursion (HasShortKeys s) b.older
  pub short : HasShortKeys s b.current

-- An image stands for a book: its journal means versions whose files it has, and which are the book's.
pub record Stands (s : Layout) (b : Book) (image : Image) : Type 0 where
  pub standing : Standing
  pub meant : IsSaid image standing
  pub stored : Files
  pub files : AreSegments s stored (files_in (all_versions standing.versions)) image
  pub book : TellsBook s stored standing.versions b
