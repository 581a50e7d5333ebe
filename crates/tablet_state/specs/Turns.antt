-- What images stand for while a record is committed, and which step of the book a call is.
use Rattle.std.specs.Prelude.{◌≡◌, ◌⊎◌, ◌≤◌, ◌^◌, ℕ, ◌+◌, ⊤, List, [], ◌∷◌, length, Option, Some, None, true, false}
use Rattle.pk_values.specs.Schemas.{Layout}
use Rattle.pk_values.specs.declared.cells.Value.{Value}
use Rattle.dev_traits.specs.Image.{Image}
use Rattle.dev_traits.specs.declared.faults.Damaged.{Damaged}
use Rattle.pk_model.specs.declared.books.Book.{Book}
use Rattle.pk_model.specs.declared.books.Plan.{Plan}
use Rattle.pk_model.specs.declared.calls.Load.{Load}
use Rattle.pk_model.specs.declared.calls.Call.{Call}
use Rattle.pk_model.specs.declared.calls.Call.TheVariants as call
use Rattle.pk_model.specs.declared.calls.Reply.{Reply}
use Rattle.pk_model.specs.declared.calls.Reply.TheVariants as reply
use Rattle.pk_model.specs.Books.{MayReply, change, is_full, next}
use Rattle.rowsets.specs.Live.{Version as Rowsets, Files, Index, live, parts_of}
use Rattle.rowsets.specs.Loads.{AreRows}
use Rattle.rowsets.specs.Ending.{Moved, AreMoved}
use Rattle.rowsets.specs.Indexing.{Move, merged_place}
use Rattle.journal_form.specs.declared.records.DeadRows.{DeadRows}
use Rattle.journal_form.specs.declared.records.LevelList.{LevelList}
use Rattle.journal_form.specs.declared.records.Record.TheVariants.{Publish, Compact, Floor}
use Rattle.journal_form.specs.Meaning.{Standing, step, with_epoch}
use Rattle.version_journal.specs.Images.{IsMeant, IsSaid}
use Rattle.pk_model.specs.Durable.{durable}
use Rattle.tablet_state.specs.Stands.{AreSegments, IsSegment, Stands, all_versions, files_in, rowsets_of}
use Rattle.kept_versions.specs.Changes.{places_of_changes}
use Rattle.tablet_state.specs.Holding.{Holds, IsMerged, IsPublication, told_files}

-- ---- images

-- an image whose journal means what is held, and which has its files, stands for the book
abbrev pub HeldStands : Type 0
HeldStands = (s : Layout) (stored : Files) (m : Standing) (index : Index) (plan : Option Rowsets) (b : Book)
    (image : Image)
    → Holds s stored m index plan b → IsSaid image m → AreSegments s stored (files_in (all_versions m.versions)) image
    → Stands s (durable b) image

-- and its rows fit, each at its key, as making a load ready asks
abbrev pub HeldRowsFit : Type 0
HeldRowsFit = (s : Layout) (stored : Files) (m : Standing) (index : Index) (plan : Option Rowsets) (b : Book)
    (image : Image)
    → Holds s stored m index plan b → AreSegments s stored (files_in (all_versions m.versions)) image
    → AreRows s b.current

-- each image of a journal with one more record, or without it, stands for the book before the call or after it
abbrev pub StandsEither : Layout → Book → ℕ → Call → Image → Type 0
StandsEither s b seq c image = Stands s (durable b) image ⊎ Stands s (durable (change s b seq c)) image

-- new files of rows are adopted, under the numbers from the first on
abbrev pub AreNew : Layout → ℕ → List (List (List Value)) → Image → Type 0
AreNew s first [] image = ⊤
AreNew s first (rows ∷ files) image = IsSegment s rows (record { file = first; rows = length rows }) image
    × AreNew s (first + 1) files image

-- An image has the files of what is held, and its journal means what it did, or the step that brings new files, and
-- then it has these.
pub record Means (s : Layout) (stored : Files) (m t : Standing) (first : ℕ) (files : List (List (List Value)))
    (image : Image) : Type 0 where
  pub old : AreSegments s stored (files_in (all_versions m.versions)) image
  pub meant : IsSaid image m ⊎ (IsSaid image t × AreNew s first files image)

abbrev pub PublicationStands : Type 0
PublicationStands = (s : Layout) (stored : Files) (m t : Standing) (index : Index) (plan : Option Rowsets) (b : Book)
    (seq : ℕ) (load : Load) (version first : ℕ) (files : List (List (List Value))) (changed : List DeadRows)
    (moves : List Move) (image : Image)
    → Holds s stored m index plan b → b.closed ≡ None → m.versions.next_file ≤ first
    → step m (Publish version (told_files first files) changed) ≡ Some t
    → IsPublication s index b load first files (places_of_changes changed) moves
    → Means s stored m t first files image → StandsEither s b seq (call.Load load) image

abbrev pub CompactionStands : Type 0
CompactionStands = (s : Layout) (stored : Files) (m t : Standing) (index : Index) (begun : Rowsets) (b : Book) (seq : ℕ)
    (p : Plan) (version first : ℕ) (files : List (List (List Value))) (changed : List DeadRows)
    (levels : Option LevelList) (image : Image)
    → Holds s stored m index (Some begun) b → b.closed ≡ None → b.plan ≡ Some p → m.versions.next_file ≤ first
    → step m (Compact version (length begun) (told_files first files) changed levels) ≡ Some t
    → IsMerged s index begun p first files changed
    → Means s stored m t first files image → StandsEither s b seq (call.End p.place) image

abbrev pub FloorStands : Type 0
FloorStands = (s : Layout) (stored : Files) (m t : Standing) (index : Index) (plan : Option Rowsets) (b : Book)
    (seq floor : ℕ) (image : Image)
    → Holds s stored m index plan b → b.closed ≡ None → step m (Floor floor) ≡ Some t
    → Means s stored m t 0 [] image → StandsEither s b seq (call.Expire floor) image

-- ---- opening

-- What is read of an image that stands for a book, with the index that the places of its live rows make, is held of
-- that book.
abbrev pub OpeningHolds : Type 0
OpeningHolds = (s : Layout) (b : Book) (image : Image) (stands : Stands s b image) (moved : List Moved)
    → AreMoved s (live stands.stored (parts_of (rowsets_of stands.standing.versions.current))) moved
    → Holds s stands.stored stands.standing (merged_place moved) None (durable b)

-- a checkpoint changes nothing of what is held
abbrev pub CheckpointHolds : Type 0
CheckpointHolds = (s : Layout) (stored : Files) (m : Standing) (index : Index) (plan : Option Rowsets) (b : Book)
    (image : Image) (epoch : ℕ)
    → Holds s stored m index plan b → IsMeant image (with_epoch epoch m)
    → Holds s stored (with_epoch epoch m) index plan b

-- ---- replies

-- the reply to a call at a place is one that the book may give, and leaves it so
abbrev pub IsStep : Layout → Book → ℕ → Call → Reply → Book → Type 0
IsStep s b seq c r left = MayReply b c r × (next s b seq c r ≡ left)

-- a load whose record was committed
abbrev pub PublishedIsAStep : Type 0
PublishedIsAStep = (s : Layout) (stored : Files) (m t : Standing) (index : Index) (plan : Option Rowsets) (b : Book)
    (seq : ℕ) (load : Load) (version first : ℕ) (files : List (List (List Value))) (changed : List DeadRows)
    → Holds s stored m index plan b → b.closed ≡ None
    → step m (Publish version (told_files first files) changed) ≡ Some t
    → IsStep s b seq (call.Load load) (reply.Published version) (change s b seq (call.Load load))

-- a load that wasn't published
abbrev pub ManyVersionsIsAStep : Type 0
ManyVersionsIsAStep = (s : Layout) (b : Book) (seq : ℕ) (load : Load) → b.closed ≡ None → is_full b ≡ true
    → IsStep s b seq (call.Load load) reply.ManyVersions b

abbrev pub ClosedIsAStep : Type 0
ClosedIsAStep = (s : Layout) (b : Book) (seq place : ℕ) (c : Call) → b.closed ≡ Some place
    → IsStep s b seq c (reply.Closed place) b

abbrev pub FaultIsAStep : Type 0
FaultIsAStep = (s : Layout) (b : Book) (seq n : ℕ) (load : Load) → b.closed ≡ None → is_full b ≡ false
    → IsStep s b seq (call.Load load) (reply.StoreFault n) (record b { closed = Some seq })

abbrev pub DamageIsAStep : Type 0
DamageIsAStep = (s : Layout) (b : Book) (seq : ℕ) (d : Damaged) (load : Load) → b.closed ≡ None → is_full b ≡ false
    → IsStep s b seq (call.Load load) (reply.Damaged d) (record b { closed = Some seq })

abbrev pub MemoryIsAStep : Type 0
MemoryIsAStep = (s : Layout) (b : Book) (seq : ℕ) (load : Load) → b.closed ≡ None → is_full b ≡ false
    → IsStep s b seq (call.Load load) reply.Memory b

-- a number at its end goes before a book that is full
abbrev pub WornIsAStep : Type 0
WornIsAStep = (s : Layout) (b : Book) (seq n : ℕ) (load : Load) → b.closed ≡ None → 2 ^ 62 ≤ n
    → IsStep s b seq (call.Load load) (reply.Worn n) b
