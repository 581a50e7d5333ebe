-- The steps that a run goes through before and after its jobs.
use Rattle.std.specs.Prelude.{◌≡◌, ◌⊎◌, ℕ, ◌+◌, List, Option, Some, None, Result, Ok, Err, ⊤}
use Rattle.dev_traits.specs.Streams.{Files}
use Rattle.pk_values.specs.Schemas.{Layout}
use Rattle.schema_json.specs.Tables.{table_of}
use Rattle.script_text.specs.Scripts.{script_of}
use Rattle.script_text.specs.declared.scripts.Job.{Job}
use Rattle.reports.specs.declared.endings.Ending.{Ending}
use Rattle.tablet_run.specs.Asks.{FileIsNext, first_unbuilt, limit_after, most_after}
use Rattle.tablet_run.specs.Runs.{InputCause}
use Rattle.tablet_run.specs.Statuses.{cause_of}
use Rattle.tablet_run.specs.Streams.{Lacks, Exceeds, FailsAfter, HeldAfter}
use Rattle.tablet_run.specs.declared.causes.Cause.{Cause}
use Rattle.tablet_run.specs.declared.causes.Cause.TheVariants as cause

-- why one input was not read
abbrev pub StopsAt : Option Files → List ℕ → ℕ → ℕ → Cause → Type 0
StopsAt files name most limit (cause.Missing n) = (n ≡ name) × Lacks files name
StopsAt files name most limit (cause.InputFault n) = n ≡ name
StopsAt files name most limit (cause.TooLarge n bytes) = (n ≡ name) × (bytes ≡ limit + 1) × Exceeds files name most
StopsAt files name most limit cause.Memory = ⊤
StopsAt files name most limit cause.None = ⊥
StopsAt files name most limit cause.Refused = ⊥
StopsAt files name most limit cause.Words = ⊥
StopsAt files name most limit (cause.Table f) = ⊥
StopsAt files name most limit (cause.Script f) = ⊥
StopsAt files name most limit (cause.Unbuilt n) = ⊥
StopsAt files name most limit cause.Sink = ⊥
StopsAt files name most limit (cause.OtherSchema t) = ⊥
StopsAt files name most limit cause.Store = ⊥
StopsAt files name most limit (cause.Damaged d) = ⊥

-- why the text of a table, or of a script, was not taken
abbrev pub TableStops : List ℕ → Cause → Type 0
TableStops table (cause.Table f) = table_of table ≡ Err f
TableStops table c = c ≡ cause.Memory

abbrev pub ScriptStops : List ℕ → Cause → Type 0
ScriptStops script (cause.Script f) = script_of script ≡ Err f
ScriptStops script c = c ≡ cause.Memory

-- why both were not taken: the table's text goes first, then the script's, then the first job that is not built
abbrev pub PlanStops : List ℕ → List ℕ → Cause → Type 0
PlanStops table script (cause.Table f) = table_of table ≡ Err f
PlanStops table script (cause.Script f) = (s : Layout) × (table_of table ≡ Ok s) × (script_of script ≡ Err f)
PlanStops table script (cause.Unbuilt n) =
    (s : Layout) × (jobs : List Job) × (table_of table ≡ Ok s) × (script_of script ≡ Ok (record { jobs = jobs })) × (first_unbuilt 1 jobs ≡ Some n)
PlanStops table script c = c ≡ cause.Memory

-- why the file of a name, if there is one, was not read after files of so many bytes
abbrev pub FileStops : Option Files → Option (List ℕ) → ℕ → Cause → Type 0
FileStops files None read c = c ≡ cause.Memory
FileStops files (Some name) read c = StopsAt files name (most_after read) (limit_after read) c

-- why the files of jobs were not all read
abbrev pub JobsStop : Option Files → List Job → Cause → Type 0
JobsStop files jobs c =
    (c ≡ cause.Memory)
    ⊎ ((name : List ℕ) × (read : ℕ) × FileIsNext files jobs name read × StopsAt files name (most_after read) (limit_after read) c)

-- what putting a report with an ending comes to, as a cause
abbrev pub PutAs : Option (List ℕ) → Option (List ℕ) → List ℕ → Ending → Cause → Type 0
PutAs before now text e cause.Sink = FailsAfter before now text
PutAs before now text e c = HeldAfter before now text × (c ≡ cause_of e)

-- how the inputs' count of faults goes on over a step of a run, which counts none where it comes to its end
abbrev pub StepCause : {T : Type 0} → ℕ → ℕ → Result T Cause → Type 0
StepCause before now (Ok found) = now ≡ before
StepCause before now (Err c) = InputCause before now c
