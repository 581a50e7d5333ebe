-- How a run ends, cause by cause. Before the jobs no two causes can come at one run, but for a fault of the outside and want of memory, to
-- which each other yields: the words name a table and a script or none, inputs that tell hold each or lack it or hold too much, each is of
-- its grammar or not, each job is built or not, and then the same of the file that each job names, in the order of the jobs. After the jobs
-- their outcomes give the cause.
use Rattle.std.specs.Prelude.{◌≡◌, ◌⊎◌, ℕ, ◌+◌, List, Option, Some, None, Ok, Err, ⊤}
use Rattle.dev_traits.specs.Causes.{Counts}
use Rattle.dev_traits.specs.Streams.{Files}
use Rattle.dev_traits.specs.View.{View}
use Rattle.pk_values.specs.Schemas.{Layout}
use Rattle.schema_json.specs.Tables.{table_of}
use Rattle.script_text.specs.Scripts.{script_of}
use Rattle.script_text.specs.Texts.{report}
use Rattle.script_text.specs.declared.scripts.Job.{Job}
use Rattle.script_text.specs.declared.outcomes.Item.{Item}
use Rattle.script_text.specs.declared.outcomes.Outcome.{Outcome}
use Rattle.command_line.specs.Words.{files_of}
use Rattle.reports.specs.declared.jobs.FiledJob.{FiledJob}
use Rattle.reports.specs.declared.endings.Ending.{Ending}
use Rattle.reports.specs.declared.endings.Ending.TheVariants as ending
use Rattle.reports.specs.Endings.{ending_of}
use Rattle.tablet_run.specs.Asks.{Asks, HasFiled, HasJobs, NamesTexts, first_unbuilt}
use Rattle.tablet_run.specs.Stores.{IsOfTable, IsUntouched, Opens, Refuses, Runs}
use Rattle.tablet_run.specs.Streams.{Lacks, Exceeds, HeldAfter, FailsAfter}
use Rattle.tablet_run.specs.declared.causes.Cause.{Cause}
use Rattle.tablet_run.specs.declared.causes.Cause.TheVariants as cause

-- ---- why a run stops before its jobs

-- why a run did not come to its jobs
abbrev pub Stops : Option Files → List (List ℕ) → Cause → Type 0
Stops files words cause.Words = files_of words ≡ None
Stops files words (cause.Missing name) = (most limit : ℕ) × Asks files words name most limit × Lacks files name
Stops files words (cause.InputFault name) = (most limit : ℕ) × Asks files words name most limit
Stops files words (cause.TooLarge name bytes) = (most limit : ℕ) × Asks files words name most limit × Exceeds files name most × (bytes ≡ limit + 1)
Stops files words (cause.Table f) = (table : List ℕ) × (script : List ℕ) × NamesTexts files words table script × (table_of table ≡ Err f)
Stops files words (cause.Script f) =
    (s : Layout) × (table : List ℕ) × (script : List ℕ) × NamesTexts files words table script × (table_of table ≡ Ok s) × (script_of script ≡ Err f)
Stops files words (cause.Unbuilt n) = (s : Layout) × (jobs : List Job) × HasJobs files words s jobs × (first_unbuilt 1 jobs ≡ Some n)
Stops files words cause.Memory = ⊤
Stops files words cause.None = ⊥
Stops files words cause.Sink = ⊥
Stops files words cause.Refused = ⊥
Stops files words (cause.OtherSchema t) = ⊥
Stops files words cause.Store = ⊥
Stops files words (cause.Damaged d) = ⊥

-- ---- how a run ends

-- what a run is given and what it leaves: what the inputs hold, the words, what the sink held before and holds after, and the store that was
-- handed in and the one that is left
pub record Setting : Type 1 where
  pub files : Option Files
  pub words : List (List ℕ)
  pub before : Option (List ℕ)
  pub now : Option (List ℕ)
  pub store : View
  pub left : View

-- the jobs that the words name were done over the store, whose table is theirs; this was their order, and this became of each
pub record Ran (r : Setting) (order : List Item) (outcomes : List Outcome) : Type 0 where
  pub s : Layout
  pub jobs : List FiledJob
  pub asked : HasFiled r.files r.words s jobs
  pub table : IsOfTable r.store s
  pub runs : Runs s (Opens r.store s) r.store.faults r.left jobs order outcomes

-- the whole report was put, and the jobs ended so
abbrev pub Reported : Setting → Ending → Type 0
Reported r e = (order : List Item) × (outcomes : List Outcome) × Ran r order outcomes × HeldAfter r.before r.now (report order outcomes) × (e ≡ ending_of outcomes)

-- a part of a report was put, and the sink failed
abbrev pub Broken : Setting → Type 0
Broken r = (order : List Item) × (outcomes : List Outcome) × Ran r order outcomes × FailsAfter r.before r.now (report order outcomes)

-- the jobs were done, and nothing was put, since the text wanted memory
abbrev pub Unput : Setting → Type 0
Unput r = (order : List Item) × (outcomes : List Outcome) × Ran r order outcomes × (r.now ≡ r.before)

-- no job was begun, since the tablet wasn't opened: nothing was put
abbrev pub Unopened : Setting → Cause → Type 0
Unopened r c = (s : Layout) × (jobs : List FiledJob) × HasFiled r.files r.words s jobs × (r.now ≡ r.before) × Refuses s r.store r.left c

-- nothing was done with the store and nothing was put, and this is why
abbrev pub Stopped : Setting → Cause → Type 0
Stopped r c = Stops r.files r.words c × (r.now ≡ r.before) × IsUntouched r.store r.left

-- how a run ends
abbrev pub Ends : Setting → Cause → Type 0
Ends r cause.None = Reported r ending.Well
Ends r cause.Refused = Reported r ending.Refused
Ends r cause.Store = Unopened r cause.Store ⊎ Reported r ending.Store
Ends r (cause.Damaged d) = Unopened r (cause.Damaged d) ⊎ Reported r (ending.Damaged d)
Ends r cause.Memory = Stopped r cause.Memory ⊎ Unopened r cause.Memory ⊎ Unput r ⊎ Reported r ending.Memory
Ends r cause.Sink = Broken r
Ends r (cause.OtherSchema t) = Unopened r (cause.OtherSchema t)
Ends r cause.Words = Stopped r cause.Words
Ends r (cause.Table f) = Stopped r (cause.Table f)
Ends r (cause.Script f) = Stopped r (cause.Script f)
Ends r (cause.Unbuilt n) = Stopped r (cause.Unbuilt n)
Ends r (cause.Missing name) = Stopped r (cause.Missing name)
Ends r (cause.InputFault name) = Stopped r (cause.InputFault name)
Ends r (cause.TooLarge name bytes) = Stopped r (cause.TooLarge name bytes)

-- ---- counts of faults

-- how the inputs' count of faults goes on: a run that ends by their fault counts one, and any other none
abbrev pub InputCause : ℕ → ℕ → Cause → Type 0
InputCause before now (cause.InputFault name) = Counts 1 before now
InputCause before now _ = now ≡ before

-- how the sink's count of faults goes on: a run that ends by its fault counts one, and any other none
abbrev pub SinkCause : ℕ → ℕ → Cause → Type 0
SinkCause before now cause.Sink = Counts 1 before now
SinkCause before now _ = now ≡ before

-- a run did its jobs, or wanted memory
abbrev pub IsWell : Cause → Type 0
IsWell cause.None = ⊤
IsWell cause.Refused = ⊤
IsWell cause.Memory = ⊤
IsWell c = ⊥
