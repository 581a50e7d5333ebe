-- What is read of a journal.
use Rattle.std.specs.Prelude.{◌≡◌, ◌≢◌, ◌⊎◌, ℕ, ◌+◌, ◌++◌, List, [], ◌∷◌, suc, zero, Bool as Truth, true, false, Option, Some, IsTrue}
use Rattle.std.specs.List.{AllByRecursion}
use Rattle.dev_traits.specs.Image.{Image, area_of}
use Rattle.dev_traits.specs.declared.faults.Damaged.{Damaged}
use Rattle.dev_traits.specs.declared.faults.Part.TheVariants.{Area}
use Rattle.dev_traits.specs.declared.faults.Shown.TheVariants.{Form}
use Rattle.gated_log.specs.Log.{HasNone, IsLog, IsNoLog}
use Rattle.journal_form.specs.declared.records.Record.{Record}
use Rattle.journal_form.specs.declared.records.Record.TheVariants.{Create, Publish, Compact, Floor, Levels, Checkpoint}
use Rattle.pk_values.specs.Schemas.{Layout}
use Rattle.journal_form.specs.Meaning.{Standing, created, opens}
use Rattle.journal_form.specs.Standings.{is_built, records_mean}
use Rattle.journal_bytes.specs.ReadRecords.{IsBodyOf}
use Rattle.journal_replay.specs.declared.replay.Replay.{Replay}
use Rattle.journal_replay.specs.Follow.{Follows}
use Rattle.journal_bytes.specs.Bodies.{Means}
use Rattle.version_journal.specs.Images.{IsBuilt, Says}

-- bodies of records that are read as yet, and these are the records; so many edits were there
pub record IsReplayed (bodies : List (List ℕ)) (records : List Record) (edits : ℕ) (s : Standing) : Type 0 where
  pub means : Means bodies s
  pub built : AllByRecursion IsBuilt bodies
  pub told : records_mean records ≡ Some s
  pub read : AllByRecursion (λ r. IsTrue (is_built r)) records
  pub epoch : s.epoch ≡ 0
  pub count : edits ≡ s.edit + 1

-- bodies that mean nothing, as far as records are read as yet
abbrev pub MeanNothing : List (List ℕ) → Type 0
MeanNothing bodies = (s : Standing) → Means bodies s → AllByRecursion IsBuilt bodies → ⊥

-- area 0 is no log, or its bodies mean nothing; area 1 has a body or is no log
abbrev pub IsDamagedIn : ℕ → Image → Type 0
IsDamagedIn zero image = IsNoLog (area_of image 0) ⊎ ((bodies : List (List ℕ)) × IsLog bodies (area_of image 0) × (bodies ≢ []) × MeanNothing bodies)
IsDamagedIn (suc a) image = (a ≡ 0) × (HasNone (area_of image 1) → ⊥)

-- how damage of an area is told
abbrev pub damage_of : ℕ → Damaged
damage_of a = record { file = 0; part = Area a; shown = Form }

-- what a damaged image says: nothing
abbrev pub DamagedSaysNothing : Type 0
DamagedSaysNothing = (a : ℕ) (image : Image) (s : Option Standing) → IsDamagedIn a image → Says image s → ⊥

-- an image says one thing
abbrev pub SaysOne : Type 0
SaysOne = (image : Image) (s t : Option Standing) → Says image s → Says image t → s ≡ t

-- the record of a new store
abbrev pub is_creation : Record → Truth
is_creation (Create form schema) = true
is_creation (Publish version files rows) = false
is_creation (Compact version replaced files rows levels) = false
is_creation (Floor floor) = false
is_creation (Levels levels) = false
is_creation (Checkpoint epoch form schema next_file floor rowsets kept levels) = false

-- a body as the first one of a journal
pub record IsCreation (body : List ℕ) : Type 0 where
  pub told : Record
  pub is : IsBodyOf 0 told body
  pub built : IsTrue (is_built told)
  pub first : is_creation told ≡ true

-- what it means alone
pub record HasBegun (body : List ℕ) (told : Record) (s : Standing) : Type 0 where
  pub schema : Layout
  pub opened : opens 0 (created 1 schema) ≡ Some s
  pub done : IsReplayed (body ∷ []) (told ∷ []) 1 s

-- the bodies up to a place were read
pub record SoFar (bodies left : List (List ℕ)) (records : List Record) (replay : Replay) : Type 0 where
  pub pre : List (List ℕ)
  pub split : bodies ≡ pre ++ left
  pub s : Standing
  pub follows : Follows replay s
  pub done : IsReplayed pre records (s.edit + 1) s
