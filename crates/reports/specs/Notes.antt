-- What is noted of each job while it runs, and how the notes of all jobs make a report.
use Rattle.std.specs.Prelude.{◌≡◌, ◌⊎◌, ◌↔◌, ℕ, zero, suc, ◌+◌, ◌<◌, ◌≤◌, List, [], ◌∷◌, ◌++◌, length, map, flat_map, slice_get, Option, None, IsSomeAnd, ⊤}
use Rattle.std.specs.List.{AllByRecursion}
use Rattle.pk_model.specs.declared.books.Book.{Book}
use Rattle.pk_model.specs.Books.{Entry, IsLegal}
use Rattle.pk_values.specs.Schemas.{Layout}
use Rattle.script_text.specs.declared.outcomes.Outcome.{Outcome}
use Rattle.reports.specs.declared.jobs.FiledJob.{FiledJob}
use Rattle.reports.specs.declared.turns.Turn.{Turn}
use Rattle.reports.specs.Jobs.{lane_at, phase_at}
use Rattle.reports.specs.Courses.{IsCourse}
use Rattle.reports.specs.Orders.{AreNotRunFrom, IsListed}
use Rattle.reports.specs.Reports.{GoesBy, HasRun, IsTurnOf, TellsTheRows, book_at}

-- what is noted of a job: its number, its turns in their order, and what became of it
pub record Note : Type 0 where
  pub job : ℕ
  pub turns : List Turn
  pub outcome : Outcome

abbrev pub turns_in : List Note → List Turn
turns_in notes = flat_map (λ (x : Note). x.turns) notes

abbrev pub outcomes_in : List Note → List Outcome
outcomes_in notes = map (λ (x : Note). x.outcome) notes

-- a turn is one of these
abbrev pub In : List Turn → Turn → Type 0
In [] t = ⊥
In (u ∷ us) t = (u ≡ t) ⊎ In us t

-- the places rise from above k on
abbrev pub Rise : ℕ → List Turn → Type 0
Rise k [] = ⊤
Rise k (t ∷ ts) = (k < t.place) × Rise t.place ts

-- the entry at a place of a history, whose places are counted from 1
abbrev pub entry_at : List Entry → ℕ → Option Entry
entry_at seen zero = None
entry_at seen (suc n) = slice_get seen n

-- the entry at a turn's place is that of the turn
abbrev pub IsSeen : Layout → List Entry → FiledJob → List Turn → Turn → Type 0
IsSeen s seen j mine t = IsSomeAnd (entry_at seen t.place) (λ e. IsTurnOf s j mine t e)

-- By what was seen of a history, whatever book it is of, a note is well made: its turns are the job's, rise, stood at their places and
-- were answered as they may be, and they are a course of the job with this outcome.
pub record IsMade (s : Layout) (seen : List Entry) (j : FiledJob) (x : Note) : Type 0 where
  pub own : AllByRecursion (λ t. t.job ≡ x.job) x.turns
  pub rise : Rise 0 x.turns
  pub stood : AllByRecursion (IsSeen s seen j x.turns) x.turns
  pub listed : AllByRecursion (IsListed j) x.turns
  pub course : IsCourse s j x.turns x.outcome

-- by what was seen of a history over a book, a note is right: it is well made, and the rows that it tells are the book's
pub record IsNoteOf (s : Layout) (book : Book) (seen : List Entry) (j : FiledJob) (x : Note) : Type 0 where
  pub made : IsMade s seen j x
  pub rows : TellsTheRows (book_at s book seen) x.turns x.outcome

-- this of each job, numbered from n, and its note
abbrev pub EachNote : (FiledJob → Note → Type 0) → ℕ → List FiledJob → List Note → Type 0
EachNote Is n [] [] = ⊤
EachNote Is n [] (x ∷ xs) = ⊥
EachNote Is n (j ∷ js) [] = ⊥
EachNote Is n (j ∷ js) (x ∷ xs) = (x.job ≡ n) × Is j x × EachNote Is (n + 1) js xs

-- a right note for each job, and a well made one
abbrev pub AreNotes : Layout → Book → List Entry → ℕ → List FiledJob → List Note → Type 0
AreNotes s book seen n jobs notes = EachNote (IsNoteOf s book seen) n jobs notes

abbrev pub AreMade : Layout → List Entry → ℕ → List FiledJob → List Note → Type 0
AreMade s seen n jobs notes = EachNote (IsMade s seen) n jobs notes

-- of two turns the one of an earlier phase came first, and in one lane the one of an earlier job
pub record CameInOrder (jobs : List FiledJob) (ts : List Turn) : Type 0 where
  pub phases : (t u : Turn) → In ts t → In ts u → phase_at jobs t.job < phase_at jobs u.job → t.place < u.place
  pub lanes : (t u : Turn) → In ts t → In ts u → lane_at jobs t.job ≡ lane_at jobs u.job → t.job < u.job → t.place < u.place

-- the turns of the notes, by their places, each of which is a place of the history
pub record AreSorted (notes : List Note) (seen : List Entry) (ts : List Turn) : Type 0 where
  pub rise : Rise 0 ts
  pub same : (t : Turn) → In ts t ↔ In (turns_in notes) t
  pub count : length ts ≡ length seen

-- a turn that was seen stays so when more is seen
abbrev pub TurnsStay : Type 0
TurnsStay = (s : Layout) (seen more : List Entry) (j : FiledJob) (mine : List Turn) (t : Turn) → IsSeen s seen j mine t → IsSeen s (seen ++ more) j mine t

-- and a note that is right stays right
abbrev pub NotesStay : Type 0
NotesStay = (s : Layout) (book : Book) (seen more : List Entry) (j : FiledJob) (x : Note) → IsNoteOf s book seen j x → IsNoteOf s book (seen ++ more) j x

-- well made notes of all jobs, whose turns are the whole history, follow the script
abbrev pub NotesFollow : Type 0
NotesFollow = (s : Layout) (jobs : List FiledJob) (notes : List Note) (seen : List Entry) (ts : List Turn) (stops : ℕ)
    → AreMade s seen 1 jobs notes
    → AreSorted notes seen ts
    → CameInOrder jobs (turns_in notes)
    → 2 ≤ stops → AreNotRunFrom stops jobs (outcomes_in notes)
    → GoesBy s jobs ts seen (outcomes_in notes)

-- right notes of all jobs, whose turns are the whole history, make a run
abbrev pub NotesMakeRun : Type 0
NotesMakeRun = (s : Layout) (book : Book) (jobs : List FiledJob) (notes : List Note) (seen : List Entry) (ts : List Turn) (stops : ℕ)
    → AreNotes s book seen 1 jobs notes
    → IsLegal s book 1 seen
    → AreSorted notes seen ts
    → CameInOrder jobs (turns_in notes)
    → 2 ≤ stops → AreNotRunFrom stops jobs (outcomes_in notes)
    → HasRun s book jobs ts seen (outcomes_in notes)
