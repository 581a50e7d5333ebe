-- What a merge, or a load, wrote into files.
use Rattle.std.specs.Prelude.{◌≡◌, ◌↔◌, ℕ, ◌+◌, List, [], ◌∷◌, ◌++◌, map, Some, slice_get, ◌<◌, ◌==◌, cond, true}
use Rattle.std.specs.FinMap.{values, empty, get}
use Rattle.pk_values.specs.Schemas.{Layout, key_of}
use Rattle.pk_values.specs.declared.cells.Value.{Value}
use Rattle.pk_model.specs.declared.calls.Load.{Load}
use Rattle.pk_model.specs.Lawful.{IsLawful}
use Rattle.pk_model.specs.Laws.{KeysStandFirst}
use Rattle.pk_model.specs.Tables.{Rows, after, touches}
use Rattle.rowsets.specs.Live.{Part, Files, live, names, Apart, FilesOnce, HasRow, StandsFor, is_among}
use Rattle.rowsets.specs.Ending.{Moved, AreMoved}
use Rattle.rowsets.specs.Loads.{IsWhole, AreResultsAnyhow, AreResultsOver}

-- a file without a dead row
abbrev pub all_live : ℕ → Part
all_live n = record { file = n; dead = [] }

-- the rows of these files, one file after the other
abbrev pub written : Files → List ℕ → List (List Value)
written rows [] = []
written rows (n ∷ ns) = rows n ++ written rows ns

-- the row stands in the list
abbrev pub IsListed : List (List Value) → List Value → Type 0
IsListed xs row = (i : ℕ) × (slice_get xs i ≡ Some row)

-- what is written is live
abbrev pub WrittenAreLive : Type 0
WrittenAreLive = (s : Layout) (rows : Files) (files : List ℕ) (k row : List Value) → HasRow s (live rows (map all_live files)) k row ↔ (IsListed (written rows files) row × (key_of s row ≡ k))

-- files with the rows of a map, in the order of their keys, stand for the map
abbrev pub WrittenStand : Type 0
WrittenStand = (s : Layout) (rows : Files) (files : List ℕ) (m : Rows) → KeysStandFirst s m → written rows files ≡ values m → StandsFor s (live rows (map all_live files)) m

-- the keys and places of the rows of file n, from row i on
abbrev pub moved_in : Layout → ℕ → ℕ → List (List Value) → List Moved
moved_in s n i [] = []
moved_in s n i (row ∷ rows) = record { key = key_of s row; place = record { segment = n; row = i } } ∷ moved_in s n (i + 1) rows

abbrev pub moved_to : Layout → Files → List ℕ → List Moved
moved_to s rows [] = []
moved_to s rows (n ∷ ns) = moved_in s n 0 (rows n) ++ moved_to s rows ns

-- these are the keys and places of all rows written, in their order
abbrev pub WrittenAreMoved : Type 0
WrittenAreMoved = (s : Layout) (rows : Files) (files : List ℕ)
    → AreMoved s (live rows (map all_live files)) (moved_to s rows files) × (map (λ e. e.key) (moved_to s rows files) ≡ map (key_of s) (written rows files))

-- a whole load may write the rows that it leaves of no row at all
abbrev pub WholeLoadWritten : Type 0
WholeLoadWritten = (s : Layout) (load : Load) (rows : Files) (files : List ℕ) → IsLawful s load → IsWhole s load
    → written rows files ≡ values (after s load empty) → AreResultsAnyhow s load (live rows (map all_live files))

-- and any load, over one map, the rows that it leaves there at the keys that it names
abbrev pub ResultsWritten : Type 0
ResultsWritten = (s : Layout) (load : Load) (m : Rows) (rows : Files) (files : List ℕ)
    → ((k row : List Value) → is_among (touches load.ops) k ≡ true → (get (after s load m) k ≡ Some row) ↔ (IsListed (written rows files) row × (key_of s row ≡ k)))
    → ((row : List Value) → IsListed (written rows files) row → is_among (touches load.ops) (key_of s row) ≡ true)
    → AreResultsOver s load m (live rows (map all_live files))

-- the numbers of these files, from n on
abbrev pub numbered : ℕ → List (List (List Value)) → List ℕ
numbered n [] = []
numbered n (file ∷ files) = n ∷ numbered (n + 1) files

-- the rows of each file, once these files have the numbers from n on
abbrev pub with_files : ℕ → List (List (List Value)) → Files → Files
with_files n [] rows m = rows m
with_files n (file ∷ files) rows m = cond (m == n) file (with_files (n + 1) files rows m)

-- the rows of these files, one file after the other
abbrev pub all_rows : List (List (List Value)) → List (List Value)
all_rows [] = []
all_rows (file ∷ files) = file ++ all_rows files

-- files that get their numbers when they are published hold what was written
abbrev pub NumberedAreWritten : Type 0
NumberedAreWritten = (n : ℕ) (files : List (List (List Value))) (rows : Files) → written (with_files n files rows) (numbered n files) ≡ all_rows files

-- the files below these numbers stay
abbrev pub LowerFilesStay : Type 0
LowerFilesStay = (n m : ℕ) (files : List (List (List Value))) (rows : Files) → m < n → with_files n files rows m ≡ rows m

-- and the new ones are apart from them and from each other
abbrev pub NumberedAreNew : Type 0
NumberedAreNew = (n : ℕ) (files : List (List (List Value))) (parts : List Part) → ((m : ℕ) → names parts m ≡ true → m < n)
    → Apart parts (map all_live (numbered n files)) × FilesOnce (map all_live (numbered n files))
