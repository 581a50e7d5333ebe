-- How far one lane has come that does the jobs of a script over a tablet, one after the other.
use Rattle.std.specs.Prelude.{◌≡◌, ℕ, ◌+◌, ◌≤◌, List, [], ◌∷◌, ◌++◌, length, map, Option, None, ⊤}
use Rattle.std.specs.List.{AllByRecursion}
use Rattle.pk_model.specs.declared.books.Book.{Book}
use Rattle.pk_model.specs.declared.calls.Call.{Call}
use Rattle.pk_model.specs.declared.calls.Reply.{Reply}
use Rattle.pk_model.specs.Books.{Entry, IsLegal, MayReply, next, replay}
use Rattle.pk_values.specs.Schemas.{Layout}
use Rattle.script_text.specs.declared.outcomes.Item.{Item}
use Rattle.script_text.specs.declared.outcomes.Outcome.{Outcome}
use Rattle.script_text.specs.declared.outcomes.Outcome.TheVariants as outcome
use Rattle.reports.specs.declared.jobs.FiledJob.{FiledJob}
use Rattle.reports.specs.declared.turns.Turn.{Turn}
use Rattle.reports.specs.Bearing.{TellsIntact}
use Rattle.reports.specs.Orders.{Each}
use Rattle.reports.specs.Reports.{HasItsRows, TellsTheRows, book_at, item_of}
use Rattle.reports.specs.Shutting.{ShutsBy}
use Rattle.reports.specs.Notes.{AreMade, Note, Rise, outcomes_in, turns_in}

-- a tablet as it was opened, and as it is now: which books it might have had, and what it is after these entries
abbrev pub Over : Type 1
Over = Book → List Entry → Type 0

-- a job was run
abbrev pub IsRun : Outcome → Type 0
IsRun outcome.NotRun = ⊥
IsRun o = ⊤

abbrev pub InJobOrder : Turn → Turn → Type 0
InJobOrder t u = t.job ≤ u.job

-- What holds whatever book the tablet has: the jobs' notes are well made by what was seen, their turns are all of it, each at its place, and
-- the order and the outcomes are theirs.
pub record HasGone (s : Layout) (jobs : List FiledJob) (seen : List Entry) (notes : List Note) (order : List Item) (outcomes : List Outcome) : Type 0 where
  pub are : AreMade s seen 1 jobs notes
  pub rise : Rise 0 (turns_in notes)
  pub count : length (turns_in notes) ≡ length seen
  pub in_order : Each InJobOrder (turns_in notes)
  pub order_is : order ≡ map item_of (turns_in notes)
  pub outcomes_are : outcomes ≡ outcomes_in notes
  pub run : AllByRecursion IsRun (outcomes_in notes)

-- What holds over a book: what was seen is legal from it on, the rows that are told are its rows, and no damage is told.
pub record GoesOver (s : Layout) (book : Book) (seen : List Entry) (notes : List Note) : Type 0 where
  pub legal : IsLegal s book 1 seen
  pub rows : AllByRecursion (λ (x : Note). TellsTheRows (book_at s book seen) x.turns x.outcome) notes
  pub intact : AllByRecursion TellsIntact (outcomes_in notes)

-- These jobs were done, one after the other, over a tablet that began open, with one of these books, and is closed now or open.
pub record HasCome (s : Layout) (Opens : Book → Type 0) (Now : Over) (closed : Option ℕ) (jobs : List FiledJob) (order : List Item) (outcomes : List Outcome) : Type 0 where
  pub notes : List Note
  pub seen : List Entry
  pub gone : HasGone s jobs seen notes order outcomes
  pub shuts : ShutsBy None 1 seen closed
  pub over : (b : Book) → Opens b → GoesOver s b seen notes × Now b seen

-- what a turn at the next place does over a book, after entries that left it so: its reply is one that the book may give, and the tablet is then
-- what it is after this entry, too
pub record Turns (s : Layout) (Now : Over) (b : Book) (seen : List Entry) (c : Call) (r : Reply) (o : Outcome) : Type 0 where
  pub may : MayReply (replay s b 1 seen) c r
  pub now : Now b (seen ++ (c, r) ∷ [])
  pub rows : HasItsRows (next s (replay s b 1 seen) (length seen + 1) c r) o
  pub intact : TellsIntact o
