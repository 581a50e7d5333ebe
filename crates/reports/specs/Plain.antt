-- How far one thread has come that does the jobs of a script over a book, one after the other.
use Rattle.std.specs.Prelude.{◌≡◌, ◌⊎◌, ℕ, ◌+◌, ◌*◌, ◌≤◌, List, [], ◌∷◌, ◌++◌, length, map, IsSomeAnd, ⊤}
use Rattle.std.specs.FinMap as fin
use Rattle.std.specs.List.{AllByRecursion}
use Rattle.pk_model.specs.declared.books.Book.{Book}
use Rattle.pk_model.specs.declared.calls.Call.{Call}
use Rattle.pk_model.specs.declared.calls.Reply.{Reply}
use Rattle.pk_model.specs.declared.calls.Reply.TheVariants as reply
use Rattle.pk_model.specs.declared.calls.Call.TheVariants as call
use Rattle.pk_model.specs.Books.{Entry, IsLegal, MayReply, TakesMemory, answer, greatest_number, next, replay, rows_at}
use Rattle.pk_model.specs.Lawful.{IsLawful}
use Rattle.pk_model.specs.Tables.{Rows}
use Rattle.script_text.specs.declared.scripts.JobAct.{JobAct}
use Rattle.script_text.specs.declared.scripts.JobAct.TheVariants as act
use Rattle.pk_values.specs.Schemas.{Layout}
use Rattle.script_text.specs.declared.outcomes.ItemPart.{ItemPart}
use Rattle.script_text.specs.declared.outcomes.ItemPart.TheVariants as part
use Rattle.script_text.specs.declared.outcomes.Outcome.{Outcome}
use Rattle.script_text.specs.declared.outcomes.Outcome.TheVariants as outcome
use Rattle.dev_traits.specs.declared.faults.OutsideFault.TheVariants as outside
use Rattle.reports.specs.declared.jobs.FiledJob.{FiledJob}
use Rattle.reports.specs.declared.plain.Course.{Course}
use Rattle.reports.specs.declared.turns.Turn.{Turn}
use Rattle.script_text.specs.Texts.{rows_text}
use Rattle.reports.specs.Courses.{IsOutside}
use Rattle.reports.specs.Orders.{Each}
use Rattle.reports.specs.Reports.{item_of}
use Rattle.reports.specs.Notes.{AreNotes, Note, Rise, outcomes_in, turns_in}
use Rattle.reports.specs.Texts.{HaveTexts}

-- a file is no longer than a load file may be
abbrev pub HasFewBytes : FiledJob → Type 0
HasFewBytes j = length j.file ≤ 67108864

-- a book without a device answers by itself, or wants memory where it may
abbrev pub AnswersPlainly : Book → Call → Reply → Type 0
AnswersPlainly b c r = (r ≡ answer b c) ⊎ ((r ≡ reply.Memory) × MayReply b c r × TakesMemory c)

abbrev pub InJobOrder : Turn → Turn → Type 0
InJobOrder t u = t.job ≤ u.job

-- a book in memory has no device: of its replies only want of memory isn't the book's own
abbrev pub IsOfMemory : Reply → Type 0
IsOfMemory (reply.StoreFault n) = ⊥
IsOfMemory (reply.Damaged d) = ⊥
IsOfMemory (reply.Worn n) = ⊥
IsOfMemory r = ⊤

-- a job was run over a book in memory: no device failed under it
abbrev pub WasRun : Outcome → Type 0
WasRun (outcome.Turn r) = IsOfMemory r
WasRun (outcome.Rows v count text) = ⊤
WasRun (outcome.Load f) = ⊤
WasRun (outcome.Outside outside.Fault) = ⊥
WasRun (outcome.Outside outside.Memory) = ⊤
WasRun (outcome.Outside (outside.Damaged d)) = ⊥
WasRun outcome.NotRun = ⊥

-- these jobs were done from this book on, and this is how far that has come
pub record HasCome (s : Layout) (book : Book) (jobs : List FiledJob) (now : Course) : Type 0 where
  pub notes : List Note
  pub seen : List Entry
  pub are : AreNotes s book seen 1 jobs notes
  pub legal : IsLegal s book 1 seen
  pub left : replay s book 1 seen ≡ now.book
  pub rise : Rise 0 (turns_in notes)
  pub count : length (turns_in notes) ≡ length seen
  pub in_order : Each InJobOrder (turns_in notes)
  pub order_is : now.order ≡ map item_of (turns_in notes)
  pub outcomes_are : now.outcomes ≡ outcomes_in notes
  pub run : AllByRecursion WasRun (outcomes_in notes)
  pub few : length seen ≤ 2 * length jobs
  pub texts : HaveTexts now.book

-- one job more was done, whose number is the next one
abbrev pub Does : Layout → ℕ → FiledJob → Course → Course → Type 0
Does s number j old new = (book : Book) (jobs : List FiledJob) → number ≡ length jobs + 1 → HasCome s book jobs old → HasCome s book (jobs ++ j ∷ []) new

-- the rows of a version as a report has them, or a fault in reading them
abbrev pub RowsTold : ℕ → Rows → Outcome → Type 0
RowsTold v m o = (o ≡ outcome.Rows v (fin.len m) (rows_text (fin.values m))) ⊎ IsOutside o

-- what a scan tells: of a version that was opened its rows
abbrev pub ScanTells : Book → Reply → Outcome → Type 0
ScanTells b (reply.Opened v) o = IsSomeAnd (rows_at b v) (λ m. RowsTold v m o)
ScanTells b r o = o ≡ outcome.Turn r

-- one turn more was taken
pub record Takes (s : Layout) (number : ℕ) (part : ItemPart) (c : Call) (old new : Course) (r : Reply) : Type 0 where
  pub plainly : AnswersPlainly old.book c r
  pub book : new.book ≡ next s old.book (length old.order + 1) c r
  pub order : new.order ≡ old.order ++ (record { job = number; part = part }) ∷ []
  pub outcomes : new.outcomes ≡ old.outcomes
  pub grows : greatest_number new.book ≤ greatest_number old.book + 1

-- a job's outcome was noted behind its turns
pub record Told (mid new : Course) (o : Outcome) : Type 0 where
  pub book : new.book ≡ mid.book
  pub order : new.order ≡ mid.order
  pub outcomes : new.outcomes ≡ mid.outcomes ++ o ∷ []

-- a last turn was taken, and its reply is the outcome
pub record Ends (s : Layout) (number : ℕ) (c : Call) (old new : Course) : Type 0 where
  pub reply : Reply
  pub mid : Course
  pub takes : Takes s number part.Last c old mid reply
  pub told : Told mid new (outcome.Turn reply)

-- a job of one turn, whose reply is its outcome
abbrev pub TellsReply : JobAct → Type 0
TellsReply (act.Load name) = ⊤
TellsReply (act.Partial name) = ⊥
TellsReply (act.Scan want) = ⊥
TellsReply act.Compact = ⊥
TellsReply (act.Expire v) = ⊤
TellsReply act.Stat = ⊤

-- a call loads only what a table takes
abbrev pub IsTaken : Layout → Call → Type 0
IsTaken s (call.Load load) = IsLawful s load
IsTaken s c = ⊤

-- no job is of an earlier phase than one before it
abbrev pub PhasesRise : List FiledJob → Type 0
PhasesRise [] = ⊤
PhasesRise (j ∷ js) = AllByRecursion (λ (i : FiledJob). j.job.phase ≤ i.job.phase) js × PhasesRise js
