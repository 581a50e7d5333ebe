-- What the jobs of one lane do to a tablet over a store, one after the other.
use Rattle.std.specs.Prelude.{◌≡◌, ℕ, ◌+◌, ◌-◌, ◌*◌, ◌^◌, ◌≤◌, min, List, [], ◌∷◌, ◌++◌, length, map, Option, Some, IsSomeAnd}
use Rattle.std.specs.List.{AllByRecursion}
use Rattle.dev_traits.specs.Causes.{RoseBy}
use Rattle.dev_traits.specs.View.{View, EachImage}
use Rattle.pk_values.specs.Schemas.{Layout}
use Rattle.pk_model.specs.declared.books.Book.{Book}
use Rattle.pk_model.specs.declared.calls.Call.{Call}
use Rattle.pk_model.specs.declared.calls.Reply.{Reply}
use Rattle.pk_model.specs.Books.{Entry, IsLegal, IsOfDevice, replay}
use Rattle.script_text.specs.declared.outcomes.Item.{Item}
use Rattle.script_text.specs.declared.outcomes.ItemPart.{ItemPart}
use Rattle.script_text.specs.declared.outcomes.ItemPart.TheVariants as part
use Rattle.script_text.specs.declared.outcomes.Outcome.{Outcome}
use Rattle.reports.specs.declared.jobs.FiledJob.{FiledJob}
use Rattle.reports.specs.declared.turns.Turn.{Turn}
use Rattle.reports.specs.Bearing.{AreBorneOut, GoesShut, TellsIntact, told_by}
use Rattle.reports.specs.Courses.{IsCourse}
use Rattle.reports.specs.Jobs.{PartMayGet, call_of}
use Rattle.reports.specs.Notes.{entry_at}
use Rattle.reports.specs.Progress.{HasCome, IsRun, Over}
use Rattle.reports.specs.Reports.{TellsTheRows, book_at}
use Rattle.reports.specs.Shutting.{ShutsBy}
use Rattle.tablet_state.specs.State.{Has, Shown, faults_of}
use Rattle.tablet_state.specs.Turns.{StandsEither}
use Rattle.tablet_run.specs.Worn.{IsWornOut, OnWorn}
use Rattle.tablet_run.specs.declared.done.Done.{Done}
use Rattle.tablet_run.specs.declared.done.Parts.{Parts}
use Rattle.tablet_run.specs.declared.done.Parts.TheVariants as parts

-- ---- a tablet after a history

-- the entry at this place closed the tablet: each image stands for the book before it, or for what its call makes of this book
abbrev pub ShutStands : View → Layout → Book → List Entry → ℕ → Type 0
ShutStands view s b seen p = IsSomeAnd (entry_at seen p) (λ e. EachImage view (StandsEither s (book_at s b seen (p - 1)) p e.0))

-- a tablet that began with a book is this after these entries: it has the book that they leave
pub record IsAfter {S : Type 0} (view : S → View) (s : Layout) (st : Shown S) (b : Book) (seen : List Entry) : Type 0 where
  pub has : Has view st (replay s b 1 seen)
  pub shut : (p : ℕ) → st.closed ≡ Some p → ShutStands (view st.store) s b seen p

-- a state's faults and those of a maker that is in use beside it
abbrev pub faults_beside : {S : Type 0} → (S → View) → Shown S → ℕ → ℕ
faults_beside view st maker = min (faults_of view st + maker) (2 ^ 64 - 1)

-- ---- turns

-- a turn of a job: which part of it, its call, and the reply
pub record Took : Type 0 where
  pub part : ItemPart
  pub call : Call
  pub reply : Reply

-- the entries of turns
abbrev pub entries_of : List Took → List Entry
entries_of took = map (λ (t : Took). (t.call, t.reply)) took

-- so these are the turns of a job with this number, the first of them at this place
abbrev pub turns_at : ℕ → ℕ → List Took → List Turn
turns_at number place [] = []
turns_at number place (t ∷ took) = record { job = number; part = t.part; place = place; reply = t.reply } ∷ turns_at number (place + 1) took

-- what turns at the places from here on do over a book, after entries that left it so: each reply is one that the book may give, the tablet is
-- then what it is after these entries, too, rows that are told are the book's, and no damage is told
pub record ActsOver (s : Layout) (Now : Over) (b : Book) (seen : List Entry) (place : ℕ) (took : List Took) (o : Outcome) : Type 0 where
  pub legal : IsLegal s (replay s b 1 seen) place (entries_of took)
  pub now : Now b (seen ++ entries_of took)
  pub rows : (number : ℕ) → TellsTheRows (book_at s b (seen ++ entries_of took)) (turns_at number place took) o
  pub intact : TellsIntact o

-- What turns at the places from here on do to a tablet, and what is told of them: the schema stays, and whether the store is honest; each fault that
-- is told was counted; each reply tells that the tablet was closed exactly where it was; a number at its end that is told is the tablet's, and a
-- tablet that has one stays so.
pub record Acts {S : Type 0} (view : S → View) (s : Layout) (place : ℕ) (old new : Shown S) (before now : ℕ) (took : List Took) (o : Outcome) : Type 0 where
  pub schema : new.contents.schema ≡ old.contents.schema
  pub honest : (view new.store).is_honest ≡ (view old.store).is_honest
  pub rose : RoseBy (told_by o) before now
  pub goes : GoesShut old.closed new.closed o
  pub run : IsRun o
  pub worn : OnWorn o (IsWornOut new)
  pub stays : (b : Book) → Has view old b → (n : ℕ) → IsWornOut old n → IsWornOut new n
  pub shuts : ShutsBy old.closed place (entries_of took) new.closed
  pub over : (b : Book) (seen : List Entry) → place ≡ length seen + 1 → IsAfter view s old b seen → ActsOver s (IsAfter view s new) b seen place took o

-- ---- a job

-- they are a course of this job, and what became of it: each has the call of its part, and a device gave it only what it may
pub record AreOfJob (s : Layout) (j : FiledJob) (place : ℕ) (took : List Took) (o : Outcome) : Type 0 where
  pub calls : (number : ℕ) → AllByRecursion (λ (t : Took). call_of s j (turns_at number place took) t.part ≡ Some t.call) took
  pub listed : AllByRecursion (λ (t : Took). IsOfDevice t.reply → PartMayGet j.job.act t.part t.reply) took
  pub course : (number : ℕ) → IsCourse s j (turns_at number place took) o

-- the parts of a job that had turns
abbrev pub parts_of : Parts → List ItemPart
parts_of parts.None = []
parts_of parts.Whole = part.Whole ∷ []
parts_of parts.First = part.First ∷ []
parts_of parts.FirstLast = part.First ∷ part.Last ∷ []
parts_of parts.FirstGaveUp = part.First ∷ part.GaveUp ∷ []
parts_of parts.FirstLastGaveUp = part.First ∷ part.Last ∷ part.GaveUp ∷ []

-- the items of a job's parts
abbrev pub items_of : ℕ → List ItemPart → List Item
items_of number ps = map (λ (p : ItemPart). record { job = number; part = p }) ps

-- What a job does from the next place on.
pub record Does {S : Type 0} (view : S → View) (j : FiledJob) (place : ℕ) (old new : Shown S) (before now : ℕ) (d : Done) : Type 0 where
  pub took : List Took
  pub parts : map (λ (t : Took). t.part) took ≡ parts_of d.parts
  pub acts : Acts view old.contents.schema place old new before now took d.outcome
  pub of_job : AreOfJob old.contents.schema j place took d.outcome

-- ---- all jobs

-- the books that a state may have
abbrev pub HadBy : {S : Type 0} → (S → View) → Shown S → Book → Type 0
HadBy view opened b = Has view opened b

-- these jobs were done from a state on that was opened, and count faults from here on
pub record HasDone {S : Type 0} (view : S → View) (s : Layout) (opened now : Shown S) (before count : ℕ) (jobs : List FiledJob) (order : List Item) (outcomes : List Outcome) : Type 0 where
  pub schema : now.contents.schema ≡ s
  pub honest : (view now.store).is_honest ≡ (view opened.store).is_honest
  pub come : HasCome s (HadBy view opened) (IsAfter view s now) now.closed jobs order outcomes
  pub borne : AreBorneOut before count now.closed outcomes
  pub ended : AllByRecursion (λ o. OnWorn o (λ n. 2 ^ 62 ≤ n)) outcomes
  pub worn : (b : Book) → Has view opened b → AllByRecursion (λ o. OnWorn o (IsWornOut now)) outcomes
  pub few : length order ≤ 3 * length jobs
  pub each : length outcomes ≡ length jobs
