-- Laws of images.
use Rattle.std.specs.Prelude.{◌≡◌, ◌⊎◌, ℕ, ◌+◌, List, [], Some}
use Rattle.dev_traits.specs.Image.{Image, area_of, Blanked}
use Rattle.gated_log.specs.Log.{IsLog, Appends}
use Rattle.journal_form.specs.declared.records.Record.{Record}
use Rattle.journal_form.specs.Meaning.{Standing, listed, listing_of, step, with_epoch}
use Rattle.journal_form.specs.Laws.{HasCheckpoint}
use Rattle.journal_bytes.specs.Records.{RecordFits, record_bytes}
use Rattle.journal_bytes.specs.Bodies.{first_record, opening_body}
use Rattle.journal_bytes.specs.Bodies.{Means}
use Rattle.version_journal.specs.Areas.{Begins, BeginsIn, area_in_force, area_of_epoch, epoch_in, log_of, other_area}
use Rattle.version_journal.specs.Images.{IsMeant}

-- an area is one log
abbrev pub OneLog : Type 0
OneLog = (xs ys : List (List ℕ)) (bytes : List ℕ) → IsLog xs bytes → IsLog ys bytes → xs ≡ ys

-- an image means one thing
abbrev pub ImageMeansOne : Type 0
ImageMeansOne = (image : Image) (s t : Standing) → IsMeant image s → IsMeant image t → s ≡ t

-- a first body tells its epoch
abbrev pub EpochIsTold : Type 0
EpochIsTold = (epoch : ℕ) (body : List ℕ) → Begins epoch body → epoch_in body ≡ epoch

-- the area in force is the one that the two logs tell
abbrev pub AreaIsTold : Type 0
AreaIsTold = (image : Image) (s : Standing) (zero_log one_log : List (List ℕ)) → IsMeant image s → IsLog zero_log (area_of image 0) → IsLog one_log (area_of image 1)
    → area_in_force zero_log one_log ≡ Some (area_of_epoch s.epoch)

-- While a record with the due edit is appended to the area in force, each image means what it did, or the step.
abbrev pub AppendIsAStep : Type 0
AppendIsAStep = (old new : Image) (bodies : List (List ℕ)) (s t : Standing) (r : Record)
    → IsMeant old s → IsLog bodies (area_of old (area_of_epoch s.epoch)) → RecordFits (s.edit + 1) r → step s r ≡ Some t
    → Appends (area_of_epoch s.epoch) bodies (record_bytes (s.edit + 1) r) old new → IsMeant new s ⊎ IsMeant new t

-- While the other area is blanked, each image means what it did.
abbrev pub BlankingKeeps : Type 0
BlankingKeeps = (old new : Image) (s : Standing) → IsMeant old s → Blanked (other_area s.epoch) old new → IsMeant new s

-- While a checkpoint is appended to the blank area, each image means what it did, or the same in the next epoch.
abbrev pub CheckpointKeeps : Type 0
CheckpointKeeps = (old new : Image) (s : Standing)
    → IsMeant old s → HasCheckpoint s → RecordFits s.edit (first_record (listed (listing_of s)))
    → Appends (other_area s.epoch) [] (opening_body s.edit (listed (listing_of s))) old new → IsMeant new s ⊎ IsMeant new (with_epoch (s.epoch + 1) s)

-- What two logs tell is what the image means: where the one that they put in force means this, and the other has no body, or begins with an epoch of its own area.
abbrev pub LogsTellMeaning : Type 0
LogsTellMeaning = (image : Image) (zero_log one_log : List (List ℕ)) (s : Standing)
    → IsLog zero_log (area_of image 0) → IsLog one_log (area_of image 1)
    → area_in_force zero_log one_log ≡ Some (area_of_epoch s.epoch)
    → Means (log_of (area_of_epoch s.epoch) zero_log one_log) s → BeginsIn (other_area s.epoch) (log_of (other_area s.epoch) zero_log one_log)
    → IsMeant image s
