-- How a store comes to be a tablet's.
use Rattle.std.specs.Prelude.{◌≡◌, ◌⊎◌, ◌<◌, ℕ, List, [], ◌∷◌, None, Some}
use Rattle.std.specs.FinMap.{empty}
use Rattle.pk_values.specs.Schemas.{Layout}
use Rattle.dev_traits.specs.Image.{Image, area_of, file}
use Rattle.dev_traits.specs.View.{View, Told}
use Rattle.gated_log.specs.Log.{IsSynced}
use Rattle.journal_form.specs.Meaning.{Standing, no_versions}
use Rattle.version_journal.specs.Journals.{HasJournal}
use Rattle.tablet_state.specs.Contents.{Contents, contents_of}
use Rattle.version_journal.specs.declared.journals.Journal.{Journal}

-- the areas of the journal are the one byte 0
abbrev pub IsBlank : Image → Type 0
IsBlank image = (area_of image 0 ≡ 0 ∷ []) × (area_of image 1 ≡ 0 ∷ [])

-- and there is no file
pub record IsClean (image : Image) : Type 0 where
  pub blank : IsBlank image
  pub none : (number : ℕ) → file image number ≡ None

-- there is no file
abbrev pub HasNoFile : Image → Type 0
HasNoFile image = (number : ℕ) → file image number ≡ None

-- what blanks areas 0 and 1 leaves the rest as it was
pub record KeepsRest (old new : Image) : Type 0 where
  pub files : new.files ≡ old.files
  pub index : area_of new 2 ≡ area_of old 2

-- and each area is as it was, or the one byte 0
pub record BlanksBoth (old new : Image) : Type 0 where
  pub rest : KeepsRest old new
  pub areas : (a : ℕ) → (area_of new a ≡ area_of old a) ⊎ (area_of new a ≡ 0 ∷ [])

-- each area is as it was, or the one byte 0
pub record Clears (old new : Image) : Type 0 where
  pub areas : (a : ℕ) → (area_of new a ≡ area_of old a) ⊎ (area_of new a ≡ 0 ∷ [])

-- a journal without a record
pub record IsStart (journal : Journal) : Type 0 where
  pub area : journal.log.area ≡ 0
  pub end : journal.log.end ≡ 0
  pub epoch : journal.epoch ≡ 0
  pub edits : journal.edits ≡ 0

-- the standing of a new store
abbrev pub first_standing : Layout → Standing
first_standing schema = record { form = 1; epoch = 0; edit = 0; versions = no_versions schema; kept = []; levels = None }

-- the honest store's journal says this, and a crash leaves of its areas what is read
pub record HasBegun (journal : Journal) (t : Standing) (view : View) : Type 0 where
  pub has : HasJournal journal (Some t) view
  pub synced : (a : ℕ) → a < 2 → IsSynced a view

-- what a new tablet holds: the version 0, without a rowset
abbrev pub new_contents : Layout → Contents
new_contents schema = contents_of schema 1 0 0 1 0 [] [] empty
