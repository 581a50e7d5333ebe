-- The jobs of a script beside the files that inputs hold.
use Rattle.std.specs.Prelude.{◌≡◌, ℕ, ◌+◌, ◌≤◌, List, [], ◌∷◌, length, map, Option, Some, None, IfSome}
use Rattle.std.specs.FinMap.{get}
use Rattle.std.specs.List.{AllByRecursion}
use Rattle.dev_traits.specs.Streams.{Files}
use Rattle.script_text.specs.declared.scripts.Job.{Job}
use Rattle.script_text.specs.declared.scripts.JobAct.{JobAct}
use Rattle.script_text.specs.declared.scripts.JobAct.TheVariants as act
use Rattle.reports.specs.declared.jobs.FiledJob.{FiledJob}

-- the name of a job's file, if it has one
abbrev pub file_name : JobAct → Option (List ℕ)
file_name (act.Load name) = Some name
file_name (act.Partial name) = Some name
file_name a = None

-- the most bytes of a load file, and of all load files of a script
abbrev pub most_file : ℕ
most_file = 67108864

abbrev pub most_files : ℕ
most_files = 268435456

-- inputs that tell hold these bytes under the name, no more than a load file may have; a job without a name has none
abbrev pub AreHeld : Option Files → Option (List ℕ) → List ℕ → Type 0
AreHeld files None bytes = bytes ≡ []
AreHeld files (Some name) bytes = (length bytes ≤ most_file) × IfSome files (λ fs. get fs name ≡ Some bytes)

abbrev pub HasItsFile : Option Files → FiledJob → Type 0
HasItsFile files j = AreHeld files (file_name j.job.act) j.file

-- how many bytes the files of jobs have
abbrev pub bytes_in : List FiledJob → ℕ
bytes_in [] = 0
bytes_in (j ∷ js) = length j.file + bytes_in js

-- these are the jobs of a script, each beside its file, and all files together are within the limit
pub record AreFiled (files : Option Files) (jobs : List Job) (filed : List FiledJob) : Type 0 where
  pub jobs_are : map (λ (f : FiledJob). f.job) filed ≡ jobs
  pub held : AllByRecursion (HasItsFile files) filed
  pub few : bytes_in filed ≤ most_files
