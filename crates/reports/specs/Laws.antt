-- The laws of reports.
use Rattle.std.specs.Prelude.{◌≡◌, ℕ, List, Some, Result, IsSomeAnd}
use Rattle.std.specs.List.{AllByRecursion}
use Rattle.load_csv.specs.declared.loads.LoadFault.{LoadFault}
use Rattle.pk_model.specs.declared.calls.Load.{Load}
use Rattle.pk_model.specs.declared.calls.Call.{Call}
use Rattle.pk_model.specs.declared.books.Book.{Book}
use Rattle.pk_model.specs.Tasks.{IsCallOf}
use Rattle.pk_values.specs.Schemas.{Layout}
use Rattle.script_text.specs.declared.scripts.JobAct.{JobAct}
use Rattle.script_text.specs.declared.outcomes.Item.{Item}
use Rattle.script_text.specs.declared.outcomes.ItemPart.{ItemPart}
use Rattle.script_text.specs.declared.outcomes.Outcome.{Outcome}
use Rattle.reports.specs.declared.jobs.FiledJob.{FiledJob}
use Rattle.reports.specs.Jobs.{part_call, task_of}
use Rattle.dev_traits.specs.Streams.{Files}
use Rattle.script_text.specs.declared.scripts.Job.{Job}
use Rattle.reports.specs.Filed.{AreFiled}
use Rattle.reports.specs.Reports.{Reports}
use Rattle.reports.specs.Calm.{IsUndisturbed}

-- the call of each part of a job is one of those that are made for its task
abbrev pub CallsAreOfTasks : Type 0
CallsAreOfTasks = (a : JobAct) (p : ItemPart) (load : Result Load LoadFault) (begun : ℕ) (c : Call)
    → part_call a load begun p ≡ Some c → IsSomeAnd (task_of a p) (λ t. IsCallOf t c)

-- where nothing disturbs a run, jobs, files, opening book and order determine every outcome
abbrev pub OrderDetermines : Type 0
OrderDetermines = (s : Layout) (book : Book) (jobs : List FiledJob) (order : List Item) (os ps : List Outcome)
    → Reports s book jobs order os → Reports s book jobs order ps
    → AllByRecursion IsUndisturbed os → AllByRecursion IsUndisturbed ps → os ≡ ps

-- so where inputs tell, a script, its files, the opening book and the order do
abbrev pub ScriptDetermines : Type 0
ScriptDetermines = (s : Layout) (book : Book) (fs : Files) (script : List Job) (jobs others : List FiledJob) (order : List Item) (os ps : List Outcome)
    → AreFiled (Some fs) script jobs → AreFiled (Some fs) script others
    → Reports s book jobs order os → Reports s book others order ps
    → AllByRecursion IsUndisturbed os → AllByRecursion IsUndisturbed ps → os ≡ ps
