-- What the words of a run ask for.
use Rattle.std.specs.Prelude.{◌≡◌, ◌⊎◌, ℕ, ◌+◌, ◌-◌, min, nat_le, List, [], ◌∷◌, ◌++◌, Option, Some, None, Ok, Bool as Truth, true, false, ◌==◌, ◌&&◌, if◌then◌else◌}
use Rattle.dev_traits.specs.Streams.{Files}
use Rattle.pk_values.specs.Schemas.{Layout}
use Rattle.schema_json.specs.Tables.{table_of}
use Rattle.script_text.specs.Scripts.{script_of}
use Rattle.script_text.specs.declared.scripts.Job.{Job}
use Rattle.script_text.specs.declared.scripts.JobAct.{JobAct}
use Rattle.script_text.specs.declared.scripts.JobAct.TheVariants as act
use Rattle.command_line.specs.Words.{Named, files_of}
use Rattle.reports.specs.declared.jobs.FiledJob.{FiledJob}
use Rattle.reports.specs.Filed.{AreFiled, bytes_in, file_name, most_file, most_files}
use Rattle.tablet_run.specs.Streams.{Holds}

-- ---- limits

-- the most bytes of a table, and of a script
abbrev pub most_text : ℕ
most_text = 1048576

-- how many bytes a load file may have after files of so many bytes, and the limit that it passes first
abbrev pub most_after : ℕ → ℕ
most_after before = min most_file (most_files - before)

abbrev pub limit_after : ℕ → ℕ
limit_after before = if nat_le most_file (most_files - before) then most_file else most_files

-- ---- what is asked for

-- the words name a table and a script, and inputs that tell hold these bytes under their names
pub record NamesTexts (files : Option Files) (words : List (List ℕ)) (table script : List ℕ) : Type 0 where
  pub named : Named
  pub names : files_of words ≡ Some named
  pub table_held : Holds files named.table most_text table
  pub script_held : Holds files named.script most_text script

-- both are of their grammars, and say this table and these jobs
pub record HasJobs (files : Option Files) (words : List (List ℕ)) (s : Layout) (jobs : List Job) : Type 0 where
  pub table : List ℕ
  pub script : List ℕ
  pub texts : NamesTexts files words table script
  pub table_is : table_of table ≡ Ok s
  pub script_is : script_of script ≡ Ok (record { jobs = jobs })

-- loads of all columns or of some, scans, expiries and counts in lane 1 are built
abbrev pub is_built_act : JobAct → Truth
is_built_act (act.Load file) = true
is_built_act (act.Partial file) = true
is_built_act (act.Scan want) = true
is_built_act act.Compact = false
is_built_act (act.Expire v) = true
is_built_act act.Stat = true

abbrev pub is_built : Job → Truth
is_built job = job.lane == 1 && is_built_act job.act

-- the number of the first job that is not built, where the first of these has number n
abbrev pub first_unbuilt : ℕ → List Job → Option ℕ
first_unbuilt n [] = None
first_unbuilt n (job ∷ jobs) = if is_built job then first_unbuilt (n + 1) jobs else Some n

-- the words name jobs of a table, each is built, and these are they beside their files
pub record HasFiled (files : Option Files) (words : List (List ℕ)) (s : Layout) (filed : List FiledJob) : Type 0 where
  pub jobs : List Job
  pub has : HasJobs files words s jobs
  pub built : first_unbuilt 1 jobs ≡ None
  pub are : AreFiled files jobs filed

-- the file of a job is the next one to be read, after files of so many bytes
pub record FileIsNext (files : Option Files) (jobs : List Job) (name : List ℕ) (before : ℕ) : Type 0 where
  pub earlier : List Job
  pub job : Job
  pub later : List Job
  pub jobs_are : jobs ≡ earlier ++ job ∷ later
  pub filed : List FiledJob
  pub are : AreFiled files earlier filed
  pub before_is : before ≡ bytes_in filed
  pub names : file_name job.act ≡ Some name

-- a run asks for an input: the table, the script after it, or the file of a job after those before it. It may hold so many bytes, and
-- past them it passes this limit
abbrev pub AsksTable : List (List ℕ) → List ℕ → Type 0
AsksTable words name = (named : Named) × (files_of words ≡ Some named) × (name ≡ named.table)

abbrev pub AsksScript : Option Files → List (List ℕ) → List ℕ → Type 0
AsksScript files words name = (named : Named) × (table : List ℕ) × (files_of words ≡ Some named) × Holds files named.table most_text table × (name ≡ named.script)

abbrev pub AsksFile : Option Files → List (List ℕ) → List ℕ → ℕ → Type 0
AsksFile files words name before = (s : Layout) × (jobs : List Job) × HasJobs files words s jobs × (first_unbuilt 1 jobs ≡ None) × FileIsNext files jobs name before

abbrev pub Asks : Option Files → List (List ℕ) → List ℕ → ℕ → ℕ → Type 0
Asks files words name most limit =
    (AsksTable words name × (most ≡ most_text) × (limit ≡ most_text))
    ⊎ (AsksScript files words name × (most ≡ most_text) × (limit ≡ most_text))
    ⊎ ((before : ℕ) × AsksFile files words name before × (most ≡ most_after before) × (limit ≡ limit_after before))
