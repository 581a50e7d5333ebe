-- Which orders of turns fit a script: what holds of them whatever the tablet had in it.
use Rattle.std.specs.Prelude.{◌≡◌, ◌↔◌, ℕ, ◌+◌, ◌≤◌, List, [], ◌∷◌, IsSomeAnd, ⊤}
use Rattle.std.specs.List.{AllByRecursion}
use Rattle.pk_model.specs.Books.{IsOfDevice}
use Rattle.pk_values.specs.Schemas.{Layout}
use Rattle.script_text.specs.declared.outcomes.Outcome.{Outcome}
use Rattle.script_text.specs.declared.outcomes.Outcome.TheVariants as outcome
use Rattle.reports.specs.declared.jobs.FiledJob.{FiledJob}
use Rattle.reports.specs.declared.turns.Turn.{Turn}
use Rattle.reports.specs.Jobs.{PartMayGet, job_at, lane_at, phase_at, turns_of}
use Rattle.reports.specs.Courses.{IsCourse}

-- each turn stands so to every later one
abbrev pub Each : (Turn → Turn → Type 0) → List Turn → Type 0
Each Stands [] = ⊤
Each Stands (t ∷ ts) = AllByRecursion (Stands t) ts × Each Stands ts

-- this of each job, numbered from n, and its outcome
abbrev pub EachJob : (ℕ → FiledJob → Outcome → Type 0) → ℕ → List FiledJob → List Outcome → Type 0
EachJob Is n [] [] = ⊤
EachJob Is n [] (o ∷ os) = ⊥
EachJob Is n (j ∷ js) [] = ⊥
EachJob Is n (j ∷ js) (o ∷ os) = Is n j o × EachJob Is (n + 1) js os

abbrev pub IsNotRun : Outcome → Type 0
IsNotRun outcome.NotRun = ⊤
IsNotRun o = ⊥

-- a turn is of one of the jobs
abbrev pub IsOfJob : List FiledJob → Turn → Type 0
IsOfJob jobs t = IsSomeAnd (job_at jobs t.job) (λ j. ⊤)

-- a device gave a turn of this job only what it may
abbrev pub IsListed : FiledJob → Turn → Type 0
IsListed j t = IsOfDevice t.reply → PartMayGet j.job.act t.part t.reply

abbrev pub IsListedIn : List FiledJob → Turn → Type 0
IsListedIn jobs t = IsSomeAnd (job_at jobs t.job) (λ j. IsListed j t)

-- no turn stands before one of an earlier phase
abbrev pub InPhases : List FiledJob → Turn → Turn → Type 0
InPhases jobs t u = phase_at jobs t.job ≤ phase_at jobs u.job

-- in one lane no turn stands before one of an earlier job
abbrev pub InLanes : List FiledJob → Turn → Turn → Type 0
InLanes jobs t u = lane_at jobs t.job ≡ lane_at jobs u.job → t.job ≤ u.job

-- the jobs that were not run are those of all phases from this one on: none, where it is past the last
abbrev pub AreNotRunFrom : ℕ → List FiledJob → List Outcome → Type 0
AreNotRunFrom phase jobs outcomes = EachJob (λ n j o. IsNotRun o ↔ (phase ≤ j.job.phase)) 1 jobs outcomes

-- each turn is a job's and was answered as it may be, phase follows phase, each lane's turns stand in the order of its jobs,
-- each job's turns are those of its course, each once, and what was not run are all jobs from some phase above the first on, or none
pub record FitsScript (s : Layout) (jobs : List FiledJob) (turns : List Turn) (outcomes : List Outcome) : Type 0 where
  pub named : AllByRecursion (IsOfJob jobs) turns
  pub listed : AllByRecursion (IsListedIn jobs) turns
  pub phases : Each (InPhases jobs) turns
  pub lanes : Each (InLanes jobs) turns
  pub courses : EachJob (λ n j o. IsCourse s j (turns_of n turns) o) 1 jobs outcomes
  pub stops : ℕ
  pub stops_late : 2 ≤ stops
  pub not_run : AreNotRunFrom stops jobs outcomes
