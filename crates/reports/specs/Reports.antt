-- What a run of jobs over a book tells: an order of turns, their replies, and the outcome of each job.
use Rattle.std.specs.Prelude.{◌≡◌, ℕ, ◌+◌, List, [], ◌∷◌, map, take, Some, IsSomeAnd, ⊤}
use Rattle.std.specs.FinMap as fin
use Rattle.std.specs.List.{AllByRecursion}
use Rattle.pk_model.specs.declared.books.Book.{Book}
use Rattle.pk_model.specs.Books.{Entry, IsLegal, replay, rows_at}
use Rattle.pk_values.specs.Schemas.{Layout}
use Rattle.script_text.specs.declared.outcomes.Item.{Item}
use Rattle.script_text.specs.declared.outcomes.Outcome.{Outcome}
use Rattle.script_text.specs.declared.outcomes.Outcome.TheVariants as outcome
use Rattle.script_text.specs.Texts.{rows_text}
use Rattle.reports.specs.declared.jobs.FiledJob.{FiledJob}
use Rattle.reports.specs.declared.turns.Turn.{Turn}
use Rattle.reports.specs.Jobs.{call_of, job_at, turns_of}
use Rattle.reports.specs.Orders.{EachJob, FitsScript}

abbrev pub item_of : Turn → Item
item_of t = record { job = t.job; part = t.part }

-- the turns stand at the places from n on
abbrev pub ArePlaced : ℕ → List Turn → Type 0
ArePlaced n [] = ⊤
ArePlaced n (t ∷ ts) = (t.place ≡ n) × ArePlaced (n + 1) ts

-- an entry has the call and the reply of a turn of a job that has these turns
pub record IsTurnOf (s : Layout) (j : FiledJob) (mine : List Turn) (t : Turn) (e : Entry) : Type 0 where
  pub calls : call_of s j mine t.part ≡ Some e.0
  pub replies : e.1 ≡ t.reply

-- an entry is that of a turn among all
abbrev pub IsEntry : Layout → List FiledJob → List Turn → Turn → Entry → Type 0
IsEntry s jobs all t e = IsSomeAnd (job_at jobs t.job) (λ j. IsTurnOf s j (turns_of t.job all) t e)

-- the entries are those of the turns, one by one
abbrev pub AreEntries : Layout → List FiledJob → List Turn → List Turn → List Entry → Type 0
AreEntries s jobs all [] [] = ⊤
AreEntries s jobs all [] (e ∷ es) = ⊥
AreEntries s jobs all (t ∷ ts) [] = ⊥
AreEntries s jobs all (t ∷ ts) (e ∷ es) = IsEntry s jobs all t e × AreEntries s jobs all ts es

-- the book that a history leaves at a place
abbrev pub book_at : Layout → Book → List Entry → ℕ → Book
book_at s book entries place = replay s book 1 (take place entries)

-- rows that are told of a version are those that a book has of it, in the order of their keys
abbrev pub HasItsRows : Book → Outcome → Type 0
HasItsRows b (outcome.Rows v count text) = IsSomeAnd (rows_at b v) (λ m. (count ≡ fin.len m) × (text ≡ rows_text (fin.values m)))
HasItsRows b o = ⊤

-- rows that a job tells are those of the book after its turn; `books` has the book after each place
abbrev pub TellsTheRows : (ℕ → Book) → List Turn → Outcome → Type 0
TellsTheRows books ts o = AllByRecursion (λ (t : Turn). HasItsRows (books t.place) o) ts

-- a history of turns, and what became of each job by it, whatever book it is of: turns at their places that fit the script, and the
-- entries of their calls and replies
pub record GoesBy (s : Layout) (jobs : List FiledJob) (turns : List Turn) (entries : List Entry) (outcomes : List Outcome) : Type 0 where
  pub placed : ArePlaced 1 turns
  pub fits : FitsScript s jobs turns outcomes
  pub made : AreEntries s jobs turns turns entries

-- the same over a book: the calls and replies are legal from it on, and the rows of each scan are its rows
pub record HasRun (s : Layout) (book : Book) (jobs : List FiledJob) (turns : List Turn) (entries : List Entry) (outcomes : List Outcome) : Type 0 where
  pub goes : GoesBy s jobs turns entries outcomes
  pub legal : IsLegal s book 1 entries
  pub rows : EachJob (λ n j o. TellsTheRows (book_at s book entries) (turns_of n turns) o) 1 jobs outcomes

-- the order and the outcomes of a run of jobs from a book on
pub record Reports (s : Layout) (book : Book) (jobs : List FiledJob) (order : List Item) (outcomes : List Outcome) : Type 0 where
  pub turns : List Turn
  pub entries : List Entry
  pub run : HasRun s book jobs turns entries outcomes
  pub order_is : order ≡ map item_of turns

-- what holds of an order and outcomes whatever book the run began with
pub record FollowsScript (s : Layout) (jobs : List FiledJob) (order : List Item) (outcomes : List Outcome) : Type 0 where
  pub turns : List Turn
  pub placed : ArePlaced 1 turns
  pub fits : FitsScript s jobs turns outcomes
  pub order_is : order ≡ map item_of turns

-- an order and outcomes that a book gave follow the script
abbrev pub ReportsFollow : Type 0
ReportsFollow = (s : Layout) (book : Book) (jobs : List FiledJob) (order : List Item) (outcomes : List Outcome)
    → Reports s book jobs order outcomes → FollowsScript s jobs order outcomes

-- so do those that go by their script, over every tablet
abbrev pub GoesFollow : Type 0
GoesFollow = (s : Layout) (jobs : List FiledJob) (turns : List Turn) (entries : List Entry) (order : List Item) (outcomes : List Outcome)
    → order ≡ map item_of turns → GoesBy s jobs turns entries outcomes → FollowsScript s jobs order outcomes

-- and over a book they are a report of it
abbrev pub RunsReport : Type 0
RunsReport = (s : Layout) (book : Book) (jobs : List FiledJob) (turns : List Turn) (entries : List Entry) (order : List Item) (outcomes : List Outcome)
    → order ≡ map item_of turns → HasRun s book jobs turns entries outcomes → Reports s book jobs order outcomes
