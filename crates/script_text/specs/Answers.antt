-- How an answer tells what was read, and what each script has.
use Rattle.std.specs.Prelude.{◌≡◌, ℕ, List, ◌≤◌, length, All, AllPairs, IsUtf8, Result, Ok, Err, ⊤}
use Rattle.script_text.specs.declared.scripts.Job.{Job}
use Rattle.script_text.specs.declared.scripts.JobAct.{JobAct}
use Rattle.script_text.specs.declared.scripts.JobAct.TheVariants.{Load, Partial}
use Rattle.script_text.specs.declared.scripts.Script.{Script}
use Rattle.script_text.specs.declared.scripts.ScriptCause.{ScriptCause}
use Rattle.script_text.specs.declared.scripts.ScriptCause.TheVariants.{Memory}
use Rattle.script_text.specs.declared.scripts.ScriptFault.{ScriptFault}
use Rattle.script_text.specs.Scripts.{most_jobs}

-- an answer that isn't want of memory is what was to be read
abbrev pub IsTold : {A : Type 0} → Result A ScriptCause → Result A ScriptCause → Type 0
IsTold meaning (Err Memory) = ⊤
IsTold meaning answer = meaning ≡ answer

-- the line of a fault, but 0 for want of memory
abbrev pub line_told : ℕ → ScriptCause → ℕ
line_told line Memory = 0
line_told line cause = line

abbrev pub IsFault : {A : Type 0} → Result A ScriptFault → ℕ → ScriptCause → Type 0
IsFault meaning line Memory = line ≡ 0
IsFault meaning line cause = meaning ≡ Err (record { line = line; cause = cause })

-- the script or the fault that was to be told, or want of memory, at line 0
abbrev pub IsAnswer : Result Script ScriptFault → Result Script ScriptFault → Type 0
IsAnswer meaning (Ok script) = meaning ≡ Ok script
IsAnswer meaning (Err fault) = IsFault meaning fault.line fault.cause

-- the names of the files that a job loads are UTF-8
abbrev pub HasTextName : JobAct → Type 0
HasTextName (Load file) = IsUtf8 file
HasTextName (Partial file) = IsUtf8 file
HasTextName act = ⊤

pub record IsJob (job : Job) : Type 0 where
  pub lane_from : 1 ≤ job.lane
  pub lane_to : job.lane ≤ 8
  pub phase_from : 1 ≤ job.phase
  pub name : HasTextName job.act

-- the phase of a job isn't before that of an earlier one
abbrev pub Follows : Job → Job → Type 0
Follows earlier later = earlier.phase ≤ later.phase

-- at most 4,096 jobs in phases that rise, each in a lane from 1 to 8 and a phase from 1 on, whose files have names of UTF-8
pub record AreJobs (jobs : List Job) : Type 0 where
  pub each : All IsJob jobs
  pub rising : AllPairs Follows jobs
  pub few : length jobs ≤ most_jobs

-- the jobs stand in this phase or before it
abbrev pub AreWithin : ℕ → List Job → Type 0
AreWithin phase jobs = All (λ job. job.phase ≤ phase) jobs

abbrev pub IsScript : Script → Type 0
IsScript script = AreJobs script.jobs
