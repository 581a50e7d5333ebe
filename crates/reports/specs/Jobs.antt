-- What a job of a script asks for, turn by turn.
use Rattle.std.specs.Prelude.{ℕ, zero, suc, List, [], ◌∷◌, filter, slice_get, Option, Some, None, option_map, unwrap_or, Result, Ok, Err, Bool as Truth, true, false, ◌==◌, IsSomeAnd}
use Rattle.pk_values.specs.Schemas.{Layout}
use Rattle.load_csv.specs.Loads.{load_of}
use Rattle.load_csv.specs.declared.loads.LoadFault.{LoadFault}
use Rattle.pk_model.specs.declared.calls.Load.{Load}
use Rattle.pk_model.specs.declared.calls.Want.TheVariants.{Latest}
use Rattle.pk_model.specs.declared.calls.Call.{Call}
use Rattle.pk_model.specs.declared.calls.Call.TheVariants as call
use Rattle.pk_model.specs.declared.calls.Reply.{Reply}
use Rattle.pk_model.specs.declared.tasks.Task.{Task}
use Rattle.pk_model.specs.declared.tasks.Task.TheVariants as task
use Rattle.pk_model.specs.Tasks.{TaskMayGet}
use Rattle.script_text.specs.declared.scripts.JobAct.{JobAct}
use Rattle.script_text.specs.declared.scripts.JobAct.TheVariants as act
use Rattle.script_text.specs.declared.outcomes.ItemPart.{ItemPart}
use Rattle.script_text.specs.declared.outcomes.ItemPart.TheVariants as part
use Rattle.reports.specs.declared.jobs.FiledJob.{FiledJob}
use Rattle.reports.specs.declared.turns.Turn.{Turn}

-- a partial load's file may leave columns out
abbrev pub is_partial : JobAct → Truth
is_partial (act.Partial name) = true
is_partial a = false

-- the load that a job's file stands for, or its first fault
abbrev pub load_in : Layout → FiledJob → Result Load LoadFault
load_in s j = load_of s (is_partial j.job.act) j.file

-- the job of a number: jobs are numbered from 1, so none has the number 0
abbrev pub job_at : List FiledJob → ℕ → Option FiledJob
job_at jobs zero = None
job_at jobs (suc n) = slice_get jobs n

abbrev pub lane_at : List FiledJob → ℕ → ℕ
lane_at jobs n = unwrap_or (option_map (λ (j : FiledJob). j.job.lane) (job_at jobs n)) 0

abbrev pub phase_at : List FiledJob → ℕ → ℕ
phase_at jobs n = unwrap_or (option_map (λ (j : FiledJob). j.job.phase) (job_at jobs n)) 0

-- the turns of a job, in their order
abbrev pub turns_of : ℕ → List Turn → List Turn
turns_of n turns = filter (λ t. t.job == n) turns

-- the place of the first turn of a job
abbrev pub first_place : List Turn → ℕ
first_place [] = 0
first_place (t ∷ ts) = t.place

-- a load's call; a file that is refused has none
abbrev pub load_call : Result Load LoadFault → Option Call
load_call (Ok load) = Some (call.Load load)
load_call (Err fault) = None

-- a partial load first looks up its keys, once its file was read: one that is refused has no turn
abbrev pub look_up_call : Result Load LoadFault → Option Call
look_up_call (Ok load) = Some (call.Open Latest)
look_up_call (Err fault) = None

-- the call of each part of a job, from what its file stands for and the place of its first turn;
-- a part that isn't the job's has none
abbrev pub part_call : JobAct → Result Load LoadFault → ℕ → ItemPart → Option Call
part_call (act.Load name) load begun part.Whole = load_call load
part_call (act.Partial name) load begun part.First = look_up_call load
part_call (act.Partial name) load begun part.Last = load_call load
part_call (act.Scan want) load begun part.Whole = Some (call.Open want)
part_call act.Compact load begun part.First = Some call.Begin
part_call act.Compact load begun part.Last = Some (call.End begun)
part_call act.Compact load begun part.GaveUp = Some (call.GiveUp begun)
part_call (act.Expire v) load begun part.Whole = Some (call.Expire v)
part_call act.Stat load begun part.Whole = Some call.Stat
part_call a load begun p = None

-- the call of a turn of a job that has these turns
abbrev pub call_of : Layout → FiledJob → List Turn → ItemPart → Option Call
call_of s j mine p = part_call j.job.act (load_in s j) (first_place mine) p

-- ---- what of the outside a turn may be answered

-- what each part of a job makes its call for; a part that isn't the job's makes none
abbrev pub task_of : JobAct → ItemPart → Option Task
task_of (act.Load name) part.Whole = Some task.LoadWhole
task_of (act.Partial name) part.First = Some task.LookUp
task_of (act.Partial name) part.Last = Some task.PublishPartial
task_of (act.Scan want) part.Whole = Some task.OpenScan
task_of act.Compact part.First = Some task.Begin
task_of act.Compact part.Last = Some task.End
task_of act.Compact part.GaveUp = Some task.GiveUp
task_of (act.Expire v) part.Whole = Some task.Expire
task_of act.Stat part.Whole = Some task.Count
task_of a p = None

-- which replies of a device each part of a job may get: those that its task may
abbrev pub PartMayGet : JobAct → ItemPart → Reply → Type 0
PartMayGet a p r = IsSomeAnd (task_of a p) (λ t. TaskMayGet t r)
