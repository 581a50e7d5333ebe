-- What a tablet holds of a book, in the words of its journal, and what a load, a compaction's end and a floor make of
-- it.
use Rattle.std.specs.Prelude.{◌≡◌, ◌≤◌, ℕ, ◌+◌, List, [], ◌∷◌, ◌++◌, map, length, Option, Some, None, true}
use Rattle.std.specs.List.{AllByRecursion}
use Rattle.std.specs.FinMap.{len, values}
use Rattle.pk_values.specs.Schemas.{Layout}
use Rattle.pk_values.specs.declared.cells.Value.{Value}
use Rattle.pk_model.specs.declared.books.Book.{Book}
use Rattle.pk_model.specs.declared.books.Plan.{Plan}
use Rattle.pk_model.specs.declared.calls.Load.{Load}
use Rattle.pk_model.specs.Books.{publish, change_end, change_expire, late}
use Rattle.pk_model.specs.Lawful.{IsLawful}
use Rattle.dev_traits.specs.Image.{Image}
use Rattle.index_level0.specs.declared.place.Place.{Place}
use Rattle.rowsets.specs.Live.{Version as Rowsets, Files, live, parts_of, names, Index}
use Rattle.rowsets.specs.Marks.{marked, stands_in}
use Rattle.rowsets.specs.Loads.{ComeWithRow}
use Rattle.rowsets.specs.Ending.{Moved, found_late}
use Rattle.rowsets.specs.Merging.{all_rows, all_live, numbered, with_files, moved_to}
use Rattle.rowsets.specs.Indexing.{Move, moved_index, places_of, kept_moves}
use Rattle.rowsets.specs.Books.{Held, HoldsBook}
use Rattle.rowsets.specs.Steps.{IsReady, HaveSame}
use Rattle.journal_form.specs.declared.records.NewFile.{NewFile}
use Rattle.journal_form.specs.declared.records.DeadRows.{DeadRows}
use Rattle.journal_form.specs.declared.records.LevelList.{LevelList}
use Rattle.journal_form.specs.declared.records.Record.{Record}
use Rattle.journal_form.specs.declared.records.Record.TheVariants.{Create, Publish, Compact, Floor, Levels, Checkpoint}
use Rattle.journal_form.specs.Versions.{Versions}
use Rattle.journal_form.specs.Meaning.{Opening, Standing, meaning, step}
use Rattle.kept_versions.specs.Changes.{places_of_changes}
use Rattle.tablet_state.specs.Stands.{all_versions, files_in, rowsets_of, AreSegments}

-- some records mean this
pub record IsTold (m : Standing) : Type 0 where
  pub edit : ℕ
  pub opening : Opening
  pub records : List Record
  pub means : meaning edit opening records ≡ Some m

-- what is held: the versions that the journal tells, an index, and the rowsets with which a plan began
abbrev pub held : Versions → Index → Option Rowsets → Held
held vs index plan = record { older = map rowsets_of vs.older; current = rowsets_of vs.current; index = index; plan = plan }

-- What the records mean, the index and the plan, over files with these rows, are a book's.
pub record Holds (s : Layout) (stored : Files) (m : Standing) (index : Index) (plan : Option Rowsets)
    (b : Book) : Type 0 where
  pub told : IsTold m
  pub schemas : AllByRecursion (λ v. v.schema ≡ s) (all_versions m.versions)
  pub floor : m.versions.floor ≡ b.floor
  pub holds : HoldsBook s (λ v. stored) (held m.versions index plan) b

-- the files that a record brings
abbrev pub brings : Record → List NewFile
brings (Publish version files changed) = files
brings (Compact version replaced files changed levels) = files
brings (Floor floor) = []
brings (Levels levels) = []
brings (Create form schema) = []
brings (Checkpoint epoch form schema next_file floor rowsets kept levels) = []

-- after a record each file that the versions name is one that they named, or one that it brings
abbrev pub FilesGrow : Type 0
FilesGrow = (s : Layout) (stored : Files) (image : Image) (m t : Standing) (r : Record) → step m r ≡ Some t
    → AreSegments s stored (files_in (all_versions m.versions)) image → AreSegments s stored (brings r) image
    → AreSegments s stored (files_in (all_versions t.versions)) image

-- these files of rows, as a record tells them: their numbers, from the first on, and how many rows each has
abbrev pub told_files : ℕ → List (List (List Value)) → List NewFile
told_files first [] = []
told_files first (rows ∷ files) = record { file = first; rows = length rows } ∷ told_files (first + 1) files

-- the rows of new files, which have the numbers from the first on
abbrev pub fresh : ℕ → List (List (List Value)) → Files
fresh first files = with_files first files (λ n. [])

-- A load, made ready to be published over a book: new files of rows, the rows that are marked dead, and where the keys
-- stand from then on.
pub record IsPublication (s : Layout) (index : Index) (b : Book) (load : Load) (first : ℕ)
    (files : List (List (List Value))) (dead : List Place) (moves : List Move) : Type 0 where
  pub lawful : IsLawful s load
  pub looked_up : List (List Value)
  pub stale : List Place
  pub ready : IsReady s load b.current index (live (fresh first files)
      (marked stale (map all_live (numbered first files)))) looked_up moves
  pub of_new : (p : Place) → stands_in stale p ≡ true → names (map all_live (numbered first files)) p.segment ≡ true
  pub of_rows : (p : Place) → stands_in stale p ≡ true
      → (row : List Value) × (live (fresh first files) (map all_live (numbered first files)) p ≡ Some row)
  pub found : HaveSame dead (places_of index looked_up ++ stale)
  pub come : ComeWithRow (fresh first files) stale (map all_live (numbered first files))

-- Its record makes of what is held what stands for the book with the load.
abbrev pub PublicationIsHeld : Type 0
PublicationIsHeld = (s : Layout) (stored : Files) (m t : Standing) (index : Index) (plan : Option Rowsets) (b : Book)
    (load : Load) (version first : ℕ) (files : List (List (List Value))) (changed : List DeadRows) (moves : List Move)
    → Holds s stored m index plan b → m.versions.next_file ≤ first
    → step m (Publish version (told_files first files) changed) ≡ Some t
    → IsPublication s index b load first files (places_of_changes changed) moves
    → Holds s (with_files first files stored) t (moved_index moves index) plan (publish s b load)

-- where the rows of new files stand, by their keys
abbrev pub moved_rows : Layout → ℕ → List (List (List Value)) → List Moved
moved_rows s first files = moved_to s (fresh first files) (numbered first files)

-- The end of a compaction: files with the rows of the plan's map in the order of their keys, and the late ones among
-- these rows.
pub record IsMerged (s : Layout) (index : Index) (begun : Rowsets) (p : Plan) (first : ℕ)
    (files : List (List (List Value))) (changed : List DeadRows) : Type 0 where
  pub rows : all_rows files ≡ values p.rows
  pub none : len p.rows ≡ 0 → files ≡ []
  pub dead : HaveSame (places_of_changes changed) (found_late index (parts_of begun) (moved_rows s first files))

-- Its record makes of what is held what stands for the book without the plan, and as many rows were late as the book
-- says.
abbrev pub CompactionIsHeld : Type 0
CompactionIsHeld = (s : Layout) (stored : Files) (m t : Standing) (index : Index) (begun : Rowsets) (b : Book)
    (p : Plan) (version first : ℕ) (files : List (List (List Value))) (changed : List DeadRows)
    (levels : Option LevelList)
    → Holds s stored m index (Some begun) b → b.plan ≡ Some p → m.versions.next_file ≤ first
    → step m (Compact version (length begun) (told_files first files) changed levels) ≡ Some t
    → IsMerged s index begun p first files changed
    → Holds s (with_files first files stored) t (moved_index (kept_moves index (parts_of begun)
    (moved_rows s first files)) index) None (change_end b (Some p))
    × (length (found_late index (parts_of begun) (moved_rows s first files)) ≡ late p)

-- The record of a floor makes of what is held what stands for the book after the expiry.
abbrev pub FloorIsHeld : Type 0
FloorIsHeld = (s : Layout) (stored : Files) (m t : Standing) (index : Index) (plan : Option Rowsets) (b : Book)
    (floor : ℕ)
    → Holds s stored m index plan b → step m (Floor floor) ≡ Some t
    → Holds s stored t index plan (change_expire b floor)

-- New index files change nothing of it.
abbrev pub LevelsAreHeld : Type 0
LevelsAreHeld = (s : Layout) (stored : Files) (m t : Standing) (index : Index) (plan : Option Rowsets) (b : Book)
    (levels : Option LevelList)
    → Holds s stored m index plan b → step m (Levels levels) ≡ Some t → Holds s stored t index plan b
