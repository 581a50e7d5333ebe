-- What the journal of an image says.
use Rattle.std.specs.Prelude.{◌≡◌, ℕ, List, Option, Some, None, IsTrue}
use Rattle.std.specs.List.{AllByRecursion}
use Rattle.dev_traits.specs.Image.{Image, area_of}
use Rattle.gated_log.specs.Log.{HasNone, IsLog}
use Rattle.journal_form.specs.declared.records.Record.{Record}
use Rattle.journal_form.specs.Meaning.{Standing}
use Rattle.journal_form.specs.Standings.{is_built}
use Rattle.journal_bytes.specs.Records.{RecordFits, record_bytes}
use Rattle.journal_bytes.specs.Bodies.{Means}
use Rattle.version_journal.specs.Areas.{OpensBefore, area_of_epoch, other_area}

-- The journal of an image means this: the area in force is a log of records with this meaning, and the other one a log that is empty or began earlier.
pub record IsMeant (image : Image) (s : Standing) : Type 0 where
  pub log : List (List ℕ)
  pub other : List (List ℕ)
  pub is_log : IsLog log (area_of image (area_of_epoch s.epoch))
  pub other_log : IsLog other (area_of image (other_area s.epoch))
  pub means : Means log s
  pub before : OpensBefore s.epoch other

-- the body of a record that is read as yet
pub record IsBuilt (body : List ℕ) : Type 0 where
  pub edit : ℕ
  pub told : Record
  pub fits : RecordFits edit told
  pub spelled : body ≡ record_bytes edit told
  pub built : IsTrue (is_built told)

-- neither area has a body
abbrev pub HasNoRecord : Image → Type 0
HasNoRecord image = HasNone (area_of image 0) × HasNone (area_of image 1)

-- it means this, by records that are read as yet
pub record IsSaid (image : Image) (s : Standing) : Type 0 where
  pub meant : IsMeant image s
  pub built : AllByRecursion IsBuilt meant.log

-- What the journal of an image says: what its records mean, or nothing where it has none.
abbrev pub Says : Image → Option Standing → Type 0
Says image None = HasNoRecord image
Says image (Some s) = IsSaid image s
