-- What holds of the causes of every run.
use Rattle.std.specs.Prelude.{◌≡◌, List, ℕ, Some, ⊤}
use Rattle.dev_traits.specs.Streams.{Files}
use Rattle.pk_values.specs.Schemas.{Layout}
use Rattle.reports.specs.declared.jobs.FiledJob.{FiledJob}
use Rattle.tablet_run.specs.Asks.{HasFiled}
use Rattle.tablet_run.specs.Runs.{Stops}
use Rattle.tablet_run.specs.declared.causes.Cause.{Cause}
use Rattle.tablet_run.specs.declared.causes.Cause.TheVariants as cause

-- neither a fault of the outside nor want of memory gave the cause
abbrev pub IsDecided : Cause → Type 0
IsDecided (cause.InputFault name) = ⊥
IsDecided cause.Memory = ⊥
IsDecided c = ⊤

-- where inputs tell, a run stops before its jobs by one decided cause at the most
abbrev pub CausesExclude : Type 0
CausesExclude = (fs : Files) (words : List (List ℕ)) (c d : Cause)
    → Stops (Some fs) words c → Stops (Some fs) words d → IsDecided c → IsDecided d → c ≡ d

-- and by none where there are jobs to be run
abbrev pub JobsExclude : Type 0
JobsExclude = (fs : Files) (words : List (List ℕ)) (s : Layout) (jobs : List FiledJob) (c : Cause)
    → HasFiled (Some fs) words s jobs → Stops (Some fs) words c → IsDecided c → ⊥
