-- Which files versions name, and how many rows each is told to have.
use Rattle.std.specs.Prelude.{◌≡◌, ◌≢◌, ◌⊎◌, ℕ, List, [], ◌∷◌, ◌++◌, map, length, slice_get, Option, Some, None, Bool as Truth, true, false}
use Rattle.std.specs.List.{AllByRecursion}
use Rattle.rowsets.specs.Marks.{Rises}
use Rattle.journal_form.specs.declared.records.NewFile.{NewFile}
use Rattle.journal_form.specs.Versions.{Rowset, files_of}
use Rattle.store_files.specs.declared.attaching.NamedFile.{NamedFile}
use Rattle.tablet_state.specs.Stands.{told_file}

-- the files that a version's rowsets name
abbrev pub told_of : List Rowset → List NewFile
told_of rowsets = map told_file (files_of rowsets)

-- and those of some versions
abbrev pub told_in : List (List Rowset) → List NewFile
told_in [] = []
told_in (rowsets ∷ versions) = told_of rowsets ++ told_in versions

-- how many rows a file of each number is told to have
abbrev pub Names : Type 0
Names = ℕ → Option ℕ

-- one of the files has this number, and is told to have so many rows
abbrev pub IsAmong : List NewFile → ℕ → ℕ → Type 0
IsAmong files number rows = (i : ℕ) × (slice_get files i ≡ Some (record { file = number; rows = rows }))

-- these files were noted too
pub record Notes (files : List NewFile) (old new : Names) : Type 0 where
  pub kept : (number rows : ℕ) → old number ≡ Some rows → new number ≡ Some rows
  pub has : AllByRecursion (λ f. new f.file ≡ Some f.rows) files
  pub only : (number rows : ℕ) → new number ≡ Some rows → (old number ≡ Some rows) ⊎ IsAmong files number rows

-- one of these files has a number that is told with other rows, before or among them
pub record Clashes (files : List NewFile) (old : Names) : Type 0 where
  pub number : ℕ
  pub first : ℕ
  pub second : ℕ
  pub told : IsAmong files number first
  pub other : (old number ≡ Some second) ⊎ IsAmong files number second
  pub apart : first ≢ second

abbrev pub Noted : Truth → List NewFile → Names → Names → Type 0
Noted true files old new = Notes files old new
Noted false files old new = Clashes files old

-- two of the files have one number, and are told to have other numbers of rows
pub record Clash (files : List NewFile) : Type 0 where
  pub number : ℕ
  pub first : ℕ
  pub second : ℕ
  pub one : IsAmong files number first
  pub other : IsAmong files number second
  pub apart : first ≢ second

-- a file stands in a list of files by number
abbrev pub IsListed : List NamedFile → NewFile → Type 0
IsListed named f = (i : ℕ) × (slice_get named i ≡ Some (record { number = f.file; rows = f.rows }))

-- the files by rising numbers, each once
pub record AreNamed (files : List NewFile) (named : List NamedFile) : Type 0 where
  pub rise : Rises (map (λ f. f.number) named)
  pub has : AllByRecursion (IsListed named) files
  pub only : AllByRecursion (λ f. IsAmong files f.number f.rows) named

abbrev pub named_of : ℕ × ℕ → NamedFile
named_of e = record { number = e.0; rows = e.1 }
