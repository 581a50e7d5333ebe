-- What a run over a store leaves, and how its report stands to it.
use Rattle.std.specs.Prelude.{◌≡◌, ◌≢◌, ◌⊎◌, ℕ, ◌^◌, ◌≤◌, List, map, Option, Some, None, IsTrue}
use Rattle.std.specs.List.{AllByRecursion}
use Rattle.dev_traits.specs.Causes.{RoseBy}
use Rattle.dev_traits.specs.Image.{Image}
use Rattle.dev_traits.specs.View.{View, Calm, EachImage, Told}
use Rattle.pk_values.specs.Schemas.{Layout}
use Rattle.pk_model.specs.declared.books.Book.{Book}
use Rattle.pk_model.specs.Books.{Entry, new_book, replay}
use Rattle.pk_model.specs.Durable.{durable}
use Rattle.script_text.specs.declared.outcomes.Item.{Item}
use Rattle.script_text.specs.declared.outcomes.Outcome.{Outcome}
use Rattle.reports.specs.declared.jobs.FiledJob.{FiledJob}
use Rattle.reports.specs.declared.turns.Turn.{Turn}
use Rattle.reports.specs.Bearing.{AreBorneOut, TellsIntact}
use Rattle.reports.specs.Progress.{IsRun}
use Rattle.reports.specs.Reports.{GoesBy, HasRun, item_of}
use Rattle.reports.specs.Shutting.{ShutsBy}
use Rattle.version_journal.specs.Images.{HasNoRecord}
use Rattle.core_recover.specs.Damages.{IsDamageOf}
use Rattle.tablet_state.specs.Stands.{Stands}
use Rattle.tablet_state.specs.State.{Has, Shown, faults_of}
use Rattle.tablet_run.specs.Doing.{ShutStands}
use Rattle.tablet_run.specs.Worn.{BearsOut, OnWorn}
use Rattle.tablet_run.specs.declared.causes.Cause.{Cause}
use Rattle.tablet_run.specs.declared.causes.Cause.TheVariants as cause

-- ---- the store that is handed in

-- a store keeps the model of a crash, and reads as this image
pub record ReadsAs (view : View) (image : Image) : Type 0 where
  pub honest : IsTrue view.is_honest
  pub seen : view.seen ≡ Some image

-- a run over a table of this schema begins with this book: the store is empty, or stands for it
abbrev pub Opens : View → Layout → Book → Type 0
Opens view s b = (image : Image) × ReadsAs view image × ((HasNoRecord image × (b ≡ new_book)) ⊎ ((d : Book) × Stands s d image × (b ≡ durable d)))

-- ---- the store that is left

-- Each image of the store stands for what a crash keeps of the book that the entries leave; where an entry closed the tablet, for the book
-- before this entry or for what its call makes of it.
pub record IsLeft (view : View) (s : Layout) (b : Book) (entries : List Entry) (closed : Option ℕ) : Type 0 where
  pub opened : closed ≡ None → EachImage view (Stands s (durable (replay s b 1 entries)))
  pub shut : (p : ℕ) → closed ≡ Some p → ShutStands view s b entries p

-- The history of a run over one book: each reply is one that the book may give, the rows are the book's, no damage is told, each number at its
-- end is one of the store's that is left, and this store stands for what the history makes of the book. Where no fault closed the tablet, it is
-- opened again with that book.
pub record RunsOver (s : Layout) (b : Book) (jobs : List FiledJob) (turns : List Turn) (entries : List Entry) (outcomes : List Outcome) (closed : Option ℕ) (left : View) : Type 0 where
  pub run : HasRun s b jobs turns entries outcomes
  pub intact : AllByRecursion TellsIntact outcomes
  pub worn : AllByRecursion (λ o. OnWorn o (BearsOut left)) outcomes
  pub images : IsLeft left s b entries closed
  pub again : closed ≡ None → IsTrue left.is_honest → Opens left s (durable (replay s b 1 entries))

-- A run of jobs over a store that begins with one of these books, from this count of its faults on. Over every store the turns fit the script,
-- each job is run, each reply tells that the tablet was closed exactly where an earlier one closed it, the faults that are told were counted, and
-- a number that is told to have come to its end is 2^62 at least.
pub record Runs (s : Layout) (Opened : Book → Type 0) (before : ℕ) (left : View) (jobs : List FiledJob) (order : List Item) (outcomes : List Outcome) : Type 0 where
  pub turns : List Turn
  pub entries : List Entry
  pub closed : Option ℕ
  pub order_is : order ≡ map item_of turns
  pub goes : GoesBy s jobs turns entries outcomes
  pub run : AllByRecursion IsRun outcomes
  pub shuts : ShutsBy None 1 entries closed
  pub borne : AreBorneOut before left.faults closed outcomes
  pub ended : AllByRecursion (λ o. OnWorn o (λ n. 2 ^ 62 ≤ n)) outcomes
  pub over : (b : Book) → Opened b → RunsOver s b jobs turns entries outcomes closed left

-- ---- a store that was not opened, or not used

-- A store that is honest stays so: where it stood for a book it stands for it, and where it was empty it is empty or stands for the new book.
pub record IsKept (s : Layout) (old new : View) : Type 0 where
  pub honest : new.is_honest ≡ old.is_honest
  pub book : (image : Image) (t : Layout) (b : Book) → ReadsAs old image → Stands t b image → EachImage new (λ left. old.may_leave left ⊎ Stands t (durable b) left)
  pub none : (image : Image) → ReadsAs old image → HasNoRecord image → EachImage new (λ left. old.may_leave left ⊎ HasNoRecord left ⊎ Stands s new_book left)

-- a store that nothing was done with
pub record IsUntouched (old new : View) : Type 0 where
  pub calm : Calm old new
  pub faults : new.faults ≡ old.faults

-- the store has the table of this schema, where it stands for a book
abbrev pub IsOfTable : View → Layout → Type 0
IsOfTable view s = (image : Image) (t : Layout) (b : Book) → ReadsAs view image → Stands t b image → t ≡ s

-- the store isn't empty, and stands for no book
abbrev pub StandsForNone : View → Type 0
StandsForNone view = ((image : Image) → ReadsAs view image → HasNoRecord image → ⊥) × ((image : Image) (t : Layout) (b : Book) → ReadsAs view image → Stands t b image → ⊥)

-- Why the table of this schema isn't opened in a store, or isn't used: the store failed, and counted it; it is damaged, which no honest store is that
-- is empty or stands for a book, and where it tells how it reads, this is damage of it; its table is another one; or memory was wanting. It is kept.
abbrev pub Refuses : Layout → View → View → Cause → Type 0
Refuses s old new cause.Store = IsKept s old new × RoseBy 1 old.faults new.faults
Refuses s old new (cause.Damaged d) = IsKept s old new × StandsForNone old × Told old (λ image. IsDamageOf image d)
Refuses s old new (cause.OtherSchema t) = IsKept s old new × (t.schema ≢ s) × ((image : Image) → ReadsAs old image → HasNoRecord image → ⊥) × IsOfTable old t.schema
Refuses s old new cause.Memory = IsKept s old new
Refuses s old new c = ⊥

-- ---- a tablet that was opened

-- made in an empty store: it has the new book
pub record IsCreated {S : Type 0} (view : S → View) (s : Layout) (store : S) (st : Shown S) : Type 0 where
  pub schema : st.contents.schema ≡ s
  pub opened : st.closed ≡ None
  pub counts : RoseBy 0 (view store).faults (faults_of view st)
  pub honest : (view st.store).is_honest ≡ (view store).is_honest
  pub book : IsTrue (view store).is_honest → Has view st new_book

-- an honest store stays so, and each image of it is empty or stands for the new book
pub record IsNew (s : Layout) (old new : View) : Type 0 where
  pub honest : new.is_honest ≡ old.is_honest
  pub each : IsTrue old.is_honest → EachImage new (λ left. HasNoRecord left ⊎ Stands s new_book left)

-- it wasn't made: the store failed, or memory was wanting
abbrev pub IsUncreated : Layout → View → View → Cause → Type 0
IsUncreated s old new cause.Store = IsNew s old new × RoseBy 1 old.faults new.faults
IsUncreated s old new cause.Memory = IsNew s old new
IsUncreated s old new c = ⊥

-- found in a store, or made where it was empty: it has the book for which the store stands, or the new one, and its table
pub record IsFound {S : Type 0} (view : S → View) (s : Layout) (store : S) (st : Shown S) : Type 0 where
  pub opened : st.closed ≡ None
  pub counts : RoseBy 0 (view store).faults (faults_of view st)
  pub honest : (view st.store).is_honest ≡ (view store).is_honest
  pub stood : (image : Image) (t : Layout) (b : Book) → ReadsAs (view store) image → Stands t b image → Has view st (durable b) × (st.contents.schema ≡ t)
  pub fresh : (image : Image) → ReadsAs (view store) image → HasNoRecord image → Has view st new_book × (st.contents.schema ≡ s)

-- opened for a table, which is its own
pub record HasOpened {S : Type 0} (view : S → View) (s : Layout) (store : S) (st : Shown S) : Type 0 where
  pub schema : st.contents.schema ≡ s
  pub opened : st.closed ≡ None
  pub counts : RoseBy 0 (view store).faults (faults_of view st)
  pub honest : (view st.store).is_honest ≡ (view store).is_honest
  pub books : (b : Book) → Opens (view store) s b → Has view st b
  pub kept : (image : Image) (t : Layout) (b : Book) → ReadsAs (view store) image → Stands t b image → Has view st (durable b)
  pub table : IsOfTable (view store) s
