-- What a commit does to an image.
use Rattle.std.specs.Prelude.{◌≡◌, ◌⊎◌, ℕ, List, Option, Some, IsTrue}
use Rattle.dev_traits.specs.Image.{Image, Elsewhere}
use Rattle.journal_form.specs.declared.records.Record.{Record}
use Rattle.journal_form.specs.Meaning.{Standing}
use Rattle.journal_form.specs.Standings.{edit_due, is_built, joined}
use Rattle.journal_bytes.specs.Records.{RecordFits, record_bytes}
use Rattle.version_journal.specs.Images.{Says}

-- the body is that of a record with the due edit, which fits what the journal says and makes this of it
pub record IsDue (body : List ℕ) (s : Option Standing) (t : Standing) : Type 0 where
  pub told : Record
  pub fits : RecordFits (edit_due s) told
  pub spelled : body ≡ record_bytes (edit_due s) told
  pub built : IsTrue (is_built told)
  pub joins : joined s told ≡ Some t

-- the files and the other areas are as they were, and the journal says what it did, or what it says with the record
pub record Joins (area : ℕ) (s : Option Standing) (t : Standing) (old new : Image) : Type 0 where
  pub elsewhere : Elsewhere area old new
  pub says : Says new s ⊎ Says new (Some t)
