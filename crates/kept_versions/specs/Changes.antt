-- The change that a load makes of the current version, and the record that tells it.
use Rattle.std.specs.Prelude.{◌≡◌, ℕ, ◌+◌, ◌^◌, ◌<◌, ◌≤◌, List, [], ◌∷◌, ◌++◌, All, map, length, Some, true}
use Rattle.index_level0.specs.declared.place.Place.{Place}
use Rattle.journal_form.specs.declared.records.NewFile.{NewFile}
use Rattle.journal_form.specs.declared.records.DeadRows.{DeadRows}
use Rattle.journal_form.specs.declared.records.Record.TheVariants.{Publish}
use Rattle.journal_form.specs.Versions.{above, bound, changes_fit, consecutive, current_number, files_of, numbers_of, published, published_rowsets}
use Rattle.journal_form.specs.Meaning.{Entry, Standing, step}

-- the places of the rows that a record tells to be dead
abbrev pub places_of_changes : List DeadRows → List Place
places_of_changes [] = []
places_of_changes (c ∷ cs) = map (λ r. record { segment = c.file; row = r }) c.rows ++ places_of_changes cs

-- each number has a place in its field of a record
pub record RowsInRange (c : DeadRows) : Type 0 where
  pub file : c.file < 2 ^ 64
  pub count : length c.rows < 2 ^ 32
  pub rows : All (λ r. r < 2 ^ 16) c.rows

pub record AreInRange (changed : List DeadRows) : Type 0 where
  pub count : length changed < 2 ^ 64
  pub each : All RowsInRange changed

-- a standing can be published over: its edit and version go on, fewer than 1,000 versions are kept, and these new files have the numbers from
-- `first` on, which are free and leave room below the bound
pub record IsDue (s : Standing) (first : ℕ) (files : List NewFile) : Type 0 where
  pub edit : s.edit + 1 < bound
  pub version : current_number s.versions + 1 < bound
  pub few : length s.versions.older + 1 < 1000
  pub free : s.versions.next_file ≤ first
  pub numbered : consecutive first files ≡ true
  pub below : first + length files < bound

-- a version more: the current one is now an older one, and the new files and dead rows make the next
abbrev pub standing_after : Standing → List NewFile → List DeadRows → Standing
standing_after s files changed =
    let told : Entry = record { edit = s.edit + 1; told = Publish (current_number s.versions + 1) files changed } in
    record s { edit = s.edit + 1; versions = published files changed s.versions; kept = s.kept ++ told ∷ [] }

-- the record of such a change fits, and means this
abbrev pub PublicationSteps : Type 0
PublicationSteps = (s : Standing) (first : ℕ) (files : List NewFile) (changed : List DeadRows)
    → IsDue s first files → changes_fit 0 (files_of (published_rowsets files s.versions.current.rowsets)) changed ≡ true
    → step s (Publish (current_number s.versions + 1) files changed) ≡ Some (standing_after s files changed)

-- files with the numbers from the next one on move it by their number
abbrev pub NumbersAdvance : Type 0
NumbersAdvance = (next : ℕ) (files : List NewFile) → consecutive next files ≡ true → above next (numbers_of files) ≡ next + length files
