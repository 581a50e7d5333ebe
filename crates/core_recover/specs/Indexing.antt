-- How the index of a version is made of its files' live rows.
use Rattle.std.specs.Prelude.{◌≡◌, ℕ, List, [], ◌∷◌, ◌++◌, map, length, Option, Some, None, Result, ⊤}
use Rattle.std.specs.List.{AllByRecursion}
use Rattle.pk_values.specs.Schemas.{Layout}
use Rattle.dev_traits.specs.Causes.{HasReadCause}
use Rattle.dev_traits.specs.declared.faults.ReadFault.{ReadFault}
use Rattle.segment_form.specs.Segments.{AreSegmentRows}
use Rattle.rowsets.specs.Live.{Files}
use Rattle.rowsets.specs.Indexing.{CodeMap, put_all}
use Rattle.journal_form.specs.declared.records.NewFile.{NewFile}
use Rattle.journal_form.specs.declared.records.ListedFile.{ListedFile}
use Rattle.store_files.specs.Indexes.{all_codes}
use Rattle.store_files.specs.Keys.{HaveShortCodes}
use Rattle.tablet_state.specs.Stands.{part_of, told_file}
use Rattle.tablet_state.specs.State.{IsAttached, IsReadAs, SegmentView, reader_faults}

-- the numbers of segments
abbrev pub numbers_in : List SegmentView → List ℕ
numbers_in segments = map (λ g. g.number) segments

-- a file's segment reads the file of lawful rows that are stored under its number
pub record ReadsRows (s : Layout) (stored : Files) (segments : List SegmentView) (f : ListedFile) : Type 0 where
  pub lawful : AreSegmentRows s (stored f.file)
  pub read : IsReadAs s stored segments (told_file f)

-- where they do, the codes and places of the files' live rows were put into the index
abbrev pub Indexes : Layout → List ListedFile → List SegmentView → CodeMap → CodeMap → Type 0
Indexes s files segments old new = (stored : Files) → AllByRecursion (ReadsRows s stored segments) files
    → new ≡ put_all (all_codes s stored (map part_of files)) old

-- the files aren't those of lawful rows whose live ones have short codes
abbrev pub HasNoIndex : Layout → List ListedFile → List SegmentView → Type 0
HasNoIndex s files segments = (stored : Files) → AllByRecursion (ReadsRows s stored segments) files
    → AllByRecursion (λ f. HaveShortCodes s f.dead 0 (stored f.file)) files → ⊥

-- a fault of one of the readers, none of which had failed
abbrev pub HasReaderCause : {T : Type 0} → List SegmentView → List SegmentView → Result T ReadFault → Type 0
HasReaderCause old new result = reader_faults old ≡ 0 → HasReadCause 0 (reader_faults new) result
