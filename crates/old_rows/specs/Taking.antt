-- What is taken of the rows of one block.
use Rattle.std.specs.Prelude.{◌≡◌, ◌≢◌, ◌⊎◌, ℕ, ◌%◌, List, ◌++◌, slice_get, Some, IsTrue, true, false, ◌==◌}
use Rattle.std.specs.List.{list_any}
use Rattle.dev_traits.specs.declared.faults.Damaged.{Damaged}
use Rattle.dev_traits.specs.declared.faults.ReadFault.{ReadFault}
use Rattle.dev_traits.specs.declared.faults.ReadFault.TheVariants as read
use Rattle.pk_values.specs.Schemas.{Layout, fits_row, key_of}
use Rattle.pk_values.specs.declared.cells.Value.{Value}
use Rattle.segment_read.specs.Reads.{OnDamage}
use Rattle.snapshot_scan.specs.Snapshots.{SnapshotView}
use Rattle.partial_loads.specs.declared.folds.Folded.{Folded}
use Rattle.old_rows.specs.Reading.{AreFilled, IsOldRow, Olds, index_damage}
use Rattle.old_rows.specs.declared.wanted.Wanted.{Wanted}

-- this is the row in place `row` of a file, of which these are the rows of its block; it isn't dead, and has this key
pub record IsTaken (s : Layout) (rows : List (List Value)) (dead : List ℕ) (row : ℕ) (key found : List Value) : Type 0 where
  pub fits : IsTrue (fits_row s found)
  pub key_is : key_of s found ≡ key
  pub there : slice_get rows (row % 1024) ≡ Some found
  pub lives : list_any (λ r. r == row) dead ≡ false

-- no such row stands there: it is dead, or another key's
abbrev pub IsNotThere : Layout → List (List Value) → List ℕ → ℕ → List Value → Type 0
IsNotThere s rows dead row key = (list_any (λ r. r == row) dead ≡ true)
    ⊎ ((found : List Value) → slice_get rows (row % 1024) ≡ Some found → key_of s found ≡ key → ⊥)

-- the fault tells that no such row stands there, or memory is wanted
pub record IsMissing (s : Layout) (rows : List (List Value)) (dead : List ℕ) (row : ℕ) (key : List Value) (e : ReadFault) : Type 0 where
  pub unfailed : e ≢ read.StoreFault
  pub damage : OnDamage e (λ d. (d ≡ index_damage) × IsNotThere s rows dead row key)

-- each row that is taken for one of these is an old row of its key
abbrev pub AreGiven : Layout → List (List Value) → List ℕ → List Folded → List Wanted → SnapshotView → Type 0
AreGiven s rows dead keys wanted v = (j : ℕ) (w : Wanted) (f : Folded) (row : List Value) → slice_get wanted j ≡ Some w
    → slice_get keys w.key ≡ Some f → IsTaken s rows dead w.place.row f.key row → IsOldRow v w.place f.key row

-- then they are filled in too
abbrev pub FillsMore : Layout → List (List Value) → List ℕ → List Folded → List Wanted → Olds → Olds → Type 0
FillsMore s rows dead keys wanted old new = (v : SnapshotView) (done : List Wanted)
    → AreGiven s rows dead keys wanted v → AreFilled v keys done old → AreFilled v keys (done ++ wanted) new

-- one of these isn't there
pub record MissesOne (s : Layout) (rows : List (List Value)) (dead : List ℕ) (keys : List Folded) (wanted : List Wanted) (d : Damaged) : Type 0 where
  pub told : d ≡ index_damage
  pub at : ℕ
  pub row : Wanted
  pub among : slice_get wanted at ≡ Some row
  pub key : Folded
  pub is : slice_get keys row.key ≡ Some key
  pub missing : IsNotThere s rows dead row.place.row key.key

pub record MayMiss (s : Layout) (rows : List (List Value)) (dead : List ℕ) (keys : List Folded) (wanted : List Wanted) (e : ReadFault) : Type 0 where
  pub unfailed : e ≢ read.StoreFault
  pub damage : OnDamage e (MissesOne s rows dead keys wanted)
