-- What a journal in hand has to do with the images of its store.
use Rattle.std.specs.Prelude.{◌≡◌, ℕ, List, Option, Some, None}
use Rattle.dev_traits.specs.Image.{Image, area_of}
use Rattle.dev_traits.specs.View.{View, EachImage}
use Rattle.gated_log.specs.Log.{EndsAt, IsSettled}
use Rattle.journal_form.specs.Meaning.{Standing}
use Rattle.journal_form.specs.Standings.{edit_due}
use Rattle.version_journal.specs.declared.journals.Journal.{Journal}
use Rattle.version_journal.specs.Areas.{area_of_epoch}
use Rattle.version_journal.specs.Images.{Says}

abbrev pub epoch_now : Option Standing → ℕ
epoch_now None = 0
epoch_now (Some s) = s.epoch

-- the area in force; the first record comes into area 0
abbrev pub area_now : Option Standing → ℕ
area_now s = area_of_epoch (epoch_now s)

-- the journal's own numbers are those of what it says
pub record IsCounted (journal : Journal) (s : Option Standing) : Type 0 where
  pub area : journal.log.area ≡ area_now s
  pub epoch : journal.epoch ≡ epoch_now s
  pub edits : journal.edits ≡ edit_due s

-- the image says this, and the journal's log ends where the journal has it
pub record ReadsAs (journal : Journal) (s : Option Standing) (image : Image) : Type 0 where
  pub says : Says image s
  pub counted : IsCounted journal s
  pub bodies : List (List ℕ)
  pub ends : EndsAt bodies journal.log.end (area_of image journal.log.area)

-- the store is honest, each of its images says this, and the journal's log is settled where the journal has its end
pub record HasJournal (journal : Journal) (s : Option Standing) (view : View) : Type 0 where
  pub each : EachImage view (λ image. Says image s)
  pub counted : IsCounted journal s
  pub bodies : List (List ℕ)
  pub settled : IsSettled journal.log.area bodies journal.log.end view
