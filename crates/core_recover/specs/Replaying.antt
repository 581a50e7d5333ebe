-- What the records of a journal mean, as a tablet keeps it.
use Rattle.std.specs.Prelude.{◌≡◌, ◌<◌, ◌≤◌, ◌^◌, ℕ, ◌+◌, ◌-◌, List, [], ◌∷◌, ◌++◌, map, length, drop, Option, Some, None, IfSome, IsSome}
use Rattle.journal_form.specs.declared.records.NewFile.{NewFile}
use Rattle.journal_form.specs.declared.records.DeadRows.{DeadRows}
use Rattle.journal_form.specs.declared.records.Record.{Record}
use Rattle.journal_form.specs.Versions.{Rowset, Versions, above, compacted_rowsets, marked, numbers_of, published_rowsets}
use Rattle.journal_form.specs.Meaning.{Standing, goes_on, step}
use Rattle.journal_form.specs.Standings.{records_mean}
use Rattle.tablet_state.specs.Contents.{version_of}
use Rattle.core_recover.specs.declared.replaying.Replayed.{Replayed}

-- the versions that were replayed, in the words of the journal
abbrev pub versions_in : Replayed → Versions
versions_in r = record { floor = r.floor; older = map (version_of r.schema) r.older.items; current = version_of r.schema r.current; next_file = r.next_file }

-- What was replayed is this standing, of a journal of form 1 without index files or checkpoints; its numbers are within their bounds.
pub record IsReplayed (r : Replayed) (s : Standing) : Type 0 where
  pub form : s.form ≡ 1
  pub epoch : s.epoch ≡ 0
  pub edit : s.edit ≡ r.edit
  pub levels : s.levels ≡ None
  pub versions : s.versions ≡ versions_in r
  pub few : length r.older.items < 1000
  pub edit_below : r.edit < 2 ^ 63
  pub version_below : r.floor + length r.older.items < 2 ^ 63
  pub file_below : r.next_file ≤ 2 ^ 63

-- some standing was replayed, which the record fits
abbrev pub Takes : Replayed → Record → Type 0
Takes r told = (s : Standing) × (IsReplayed r s × IsSome (step s told))

-- and of each one the record's step was
abbrev pub HasStepped : Record → Replayed → Replayed → Type 0
HasStepped told old new = (s : Standing) → IsReplayed old s → IfSome (step s told) (IsReplayed new)

-- the step but for its edit
abbrev pub HasFollowed : Record → Replayed → Replayed → Type 0
HasFollowed told old new = (s : Standing) → IsReplayed old s → (new.edit ≡ old.edit) × (old.edit + 1 < 2 ^ 63) × IfSome (step s told) (λ t. t.edit ≡ old.edit + 1 → IsReplayed (record new { edit = old.edit + 1 }) t)

-- records up to some that are left were replayed
abbrev pub SoFar : List Record → List Record → Replayed → Type 0
SoFar records left r = (s : Standing) × (IsReplayed r s × (records_mean records ≡ goes_on left (Some s)))

-- ---- by its fields

-- one version more
pub record HasPublished (files : List NewFile) (changed : List DeadRows) (old new : Replayed) : Type 0 where
  pub schema : new.schema ≡ old.schema
  pub edit : new.edit ≡ old.edit
  pub floor : new.floor ≡ old.floor
  pub older : new.older.items ≡ old.older.items ++ old.current ∷ []
  pub current : new.current ≡ marked changed (published_rowsets files old.current)
  pub next_file : new.next_file ≡ above old.next_file (numbers_of files)

-- the current version compacted
pub record HasCompacted (replaced : ℕ) (files : List NewFile) (changed : List DeadRows) (old new : Replayed) : Type 0 where
  pub schema : new.schema ≡ old.schema
  pub edit : new.edit ≡ old.edit
  pub floor : new.floor ≡ old.floor
  pub older : new.older.items ≡ old.older.items
  pub current : new.current ≡ marked changed (compacted_rowsets replaced files old.current)
  pub next_file : new.next_file ≡ above old.next_file (numbers_of files)

-- the versions below a floor dropped
pub record HasRaised (floor : ℕ) (old new : Replayed) : Type 0 where
  pub schema : new.schema ≡ old.schema
  pub edit : new.edit ≡ old.edit
  pub raised : new.floor ≡ floor
  pub older : new.older.items ≡ drop (floor - old.floor) old.older.items
  pub current : new.current ≡ old.current
  pub next_file : new.next_file ≡ old.next_file
