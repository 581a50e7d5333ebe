-- Raising the floor: which files stay, and what is held then.
use Rattle.std.specs.Prelude.{◌≡◌, ◌≢◌, ◌⊎◌, ◌≤◌, ◌<◌, ◌^◌, ℕ, ◌+◌, ◌-◌, ◌==◌, List, [], ◌∷◌, ◌++◌, map, length, drop, nat_lt, nat_le, Bool as Truth, if◌then◌else◌, Option, Some, None, Contains, Result, Ok, Err}
use Rattle.std.specs.List.{filter, list_any}
use Rattle.pk_values.specs.Schemas.{Layout}
use Rattle.dev_traits.specs.Image.{Image, area_of, file}
use Rattle.dev_traits.specs.View.{View}
use Rattle.gated_log.specs.Log.{IsLog}
use Rattle.pk_model.specs.declared.books.Book.{Book}
use Rattle.pk_model.specs.declared.calls.Call.TheVariants as call
use Rattle.pk_model.specs.declared.calls.Reply.{Reply}
use Rattle.pk_model.specs.declared.calls.Reply.TheVariants as reply
use Rattle.pk_model.specs.Books.{version}
use Rattle.journal_form.specs.declared.records.Record.TheVariants.{Floor}
use Rattle.journal_form.specs.Versions.{Rowset as ListedRowset}
use Rattle.journal_form.specs.Meaning.{file_numbers}
use Rattle.journal_bytes.specs.Records.{record_bytes}
use Rattle.tablet_state.specs.Turns.{IsStep}
use Rattle.tablet_state.specs.Contents.{Contents, UnderWay, all_rowsets, current_number, worn_of}
use Rattle.tablet_state.specs.State.{SegmentView, Shown}

-- ---- which files are needed

-- the number is among these
abbrev pub is_listed : List ℕ → ℕ → Truth
is_listed numbers n = list_any (λ m. m == n) numbers

-- the numbers of the files of versions
abbrev pub kept_numbers : List (List ListedRowset) → List ℕ
kept_numbers [] = []
kept_numbers (v ∷ vs) = file_numbers v ++ kept_numbers vs

-- those of the rowsets with which a compaction under way began
abbrev pub numbers_planned : Option UnderWay → List ℕ
numbers_planned None = []
numbers_planned (Some p) = file_numbers p.rowsets

-- the files that a kept version or the compaction under way names
abbrev pub needed : Contents → List ℕ
needed c = kept_numbers (all_rowsets c) ++ numbers_planned c.plan

abbrev pub is_needed : Contents → ℕ → Truth
is_needed c n = is_listed (needed c) n

-- ---- what the floor's rise makes

-- what is held then: the older versions below the floor are gone
abbrev pub raised_contents : ℕ → Contents → Contents
raised_contents v c = record c { edit = c.edit + 1; floor = v; older = drop (v - c.floor) c.older }

-- an image after it: each file that is needed is as it was before, and no other is there
abbrev pub HoldsNeeded : Contents → Image → Image → Type 0
HoldsNeeded c before after = (n : ℕ) → file after n ≡ (if is_needed c n then file before n else None)

-- the segments of the files that are needed
abbrev pub needed_segments : Contents → List SegmentView → List SegmentView
needed_segments c segments = filter (λ g. is_needed c g.number) segments

-- The other areas are as they were. The log of this one has the bodies from before, and then every file is there; or it
-- has the record too, and then the files of a list are.
pub record Raises (a : ℕ) (bodies : List (List ℕ)) (body : List ℕ) (keep : List ℕ) (old new : Image) : Type 0 where
  pub areas : (b : ℕ) → b ≢ a → area_of new b ≡ area_of old b
  pub log : (IsLog bodies (area_of new a) × (new.files ≡ old.files))
      ⊎ (IsLog (bodies ++ body ∷ []) (area_of new a) × ((n : ℕ) → Contains keep n → file new n ≡ file old n))

-- What is ready to raise the floor to v: the numbers of the files that stay, which rise; the record's body; and memory
-- for all that is written, and for so many segments.
pub record IsFloorMade (view : View) (c : Contents) (segments : List SegmentView) (v : ℕ) (keep : List ℕ) (room : ℕ)
    (body : List ℕ) : Type 0 where
  pub unworn : worn_of c ≡ None
  pub above : c.floor < v
  pub reached : v ≤ current_number c
  pub keep_is : keep ≡ filter (is_needed (raised_contents v c)) (map (λ g. g.number) segments)
  pub spelled : body ≡ record_bytes (c.edit + 1) (Floor v)
  pub calls : 5 ≤ view.spare_calls
  pub bytes : length body + 10 ≤ view.spare_bytes
  pub segments_room : length segments ≤ room

-- ---- replies

-- the reply to an expiry that was applied
abbrev pub floored : {T : Type 0} → ℕ → Result T Reply → Reply
floored v (Ok _) = reply.Floor v
floored v (Err r) = r

-- a number that has come to its end is told
abbrev pub worn_answer : Option ℕ → Option Reply
worn_answer None = None
worn_answer (Some n) = Some (reply.Worn n)

-- What an expiry answers that raises no floor: the state is closed; no version of that number is there yet; the floor
-- is as high; or a number has come to its end.
abbrev pub floor_answer : Option ℕ → Option ℕ → ℕ → ℕ → ℕ → Option Reply
floor_answer (Some place) worn floor current v = Some (reply.Closed place)
floor_answer None worn floor current v =
    if nat_lt current v then Some (reply.NotYet current)
    else if nat_le v floor then Some (reply.Floor floor)
    else worn_answer worn

abbrev pub floor_refusal : {S : Type 0} → Shown S → ℕ → Option Reply
floor_refusal st v = floor_answer st.closed (worn_of st.contents) st.contents.floor (current_number st.contents) v

-- ---- which step of the book such an answer is

abbrev pub NotYetIsAStep : Type 0
NotYetIsAStep = (s : Layout) (b : Book) (seq v : ℕ) → b.closed ≡ None → version b < v
    → IsStep s b seq (call.Expire v) (reply.NotYet (version b)) b

abbrev pub LowFloorIsAStep : Type 0
LowFloorIsAStep = (s : Layout) (b : Book) (seq v : ℕ) → b.closed ≡ None → v ≤ b.floor
    → IsStep s b seq (call.Expire v) (reply.Floor b.floor) b

abbrev pub ExpireMemoryIsAStep : Type 0
ExpireMemoryIsAStep = (s : Layout) (b : Book) (seq v : ℕ) → b.closed ≡ None → v ≤ version b
    → IsStep s b seq (call.Expire v) reply.Memory b

abbrev pub ExpireWornIsAStep : Type 0
ExpireWornIsAStep = (s : Layout) (b : Book) (seq v n : ℕ) → b.closed ≡ None → v ≤ version b → 2 ^ 62 ≤ n
    → IsStep s b seq (call.Expire v) (reply.Worn n) b

abbrev pub ExpireFaultIsAStep : Type 0
ExpireFaultIsAStep = (s : Layout) (b : Book) (seq v n : ℕ) → b.closed ≡ None → v ≤ version b
    → IsStep s b seq (call.Expire v) (reply.StoreFault n) (record b { closed = Some seq })
