-- The course of each job: which turns it has, by their replies, and what became of it. No word here needs a book.
use Rattle.std.specs.Prelude.{◌≡◌, ◌⊎◌, ℕ, List, [], ◌∷◌, Result, Ok, Err, ⊤}
use Rattle.dev_traits.specs.declared.faults.OutsideFault.{OutsideFault}
use Rattle.dev_traits.specs.declared.faults.OutsideFault.TheVariants as outside
use Rattle.load_csv.specs.declared.loads.LoadFault.{LoadFault}
use Rattle.load_csv.specs.declared.loads.LoadFault.TheVariants as fault
use Rattle.pk_model.specs.declared.calls.Load.{Load}
use Rattle.pk_model.specs.declared.calls.Reply.{Reply}
use Rattle.pk_model.specs.declared.calls.Reply.TheVariants as reply
use Rattle.pk_values.specs.Schemas.{Layout}
use Rattle.script_text.specs.declared.scripts.JobAct.{JobAct}
use Rattle.script_text.specs.declared.scripts.JobAct.TheVariants as act
use Rattle.script_text.specs.declared.outcomes.ItemPart.{ItemPart}
use Rattle.script_text.specs.declared.outcomes.ItemPart.TheVariants as part
use Rattle.script_text.specs.declared.outcomes.Outcome.{Outcome}
use Rattle.script_text.specs.declared.outcomes.Outcome.TheVariants as outcome
use Rattle.reports.specs.declared.jobs.FiledJob.{FiledJob}
use Rattle.reports.specs.declared.turns.Turn.{Turn}
use Rattle.reports.specs.Jobs.{load_in}

-- ---- a job without a turn

-- reading a file tells its fault, or want of memory
abbrev pub ReadingTells : Result Load LoadFault → LoadFault → Type 0
ReadingTells (Ok load) f = f ≡ fault.Memory
ReadingTells (Err g) f = (f ≡ g) ⊎ (f ≡ fault.Memory)

-- a job's file is refused with this
abbrev pub IsRefused : JobAct → Result Load LoadFault → LoadFault → Type 0
IsRefused (act.Load name) load f = ReadingTells load f
IsRefused (act.Partial name) load f = ReadingTells load f
IsRefused a load f = ⊥

-- making files meets no damage
abbrev pub IsOfMaking : OutsideFault → Type 0
IsOfMaking (outside.Damaged d) = ⊥
IsOfMaking f = ⊤

abbrev pub PreparingTells : Result Load LoadFault → OutsideFault → Type 0
PreparingTells (Ok load) f = IsOfMaking f
PreparingTells (Err g) f = ⊥

-- a fault outside a turn ends a job before its first: a load makes its files before its turn
abbrev pub EndsBefore : JobAct → Result Load LoadFault → OutsideFault → Type 0
EndsBefore (act.Load name) load f = PreparingTells load f
EndsBefore a load f = ⊥

-- what becomes of a job without a turn
abbrev pub WithoutTurn : JobAct → Result Load LoadFault → Outcome → Type 0
WithoutTurn a load (outcome.Load f) = IsRefused a load f
WithoutTurn a load (outcome.Outside f) = EndsBefore a load f
WithoutTurn a load outcome.NotRun = ⊤
WithoutTurn a load o = ⊥

-- ---- a job with its turns

-- a fault outside a turn ended the job
abbrev pub IsOutside : Outcome → Type 0
IsOutside (outcome.Outside f) = ⊤
IsOutside o = ⊥

-- one turn, that is the whole job
abbrev pub IsWhole : List Turn → (Turn → Type 0) → Type 0
IsWhole [] Ends = ⊥
IsWhole (t ∷ []) Ends = (t.part ≡ part.Whole) × Ends t
IsWhole (t ∷ u ∷ ts) Ends = ⊥

-- a first turn, and behind it what its reply calls for
abbrev pub IsFirst : List Turn → (Reply → List Turn → Type 0) → Type 0
IsFirst [] GoesOn = ⊥
IsFirst (t ∷ ts) GoesOn = (t.part ≡ part.First) × GoesOn t.reply ts

-- the turns end here, and the outcome is this reply
abbrev pub EndsWith : Reply → List Turn → Outcome → Type 0
EndsWith r ts o = (ts ≡ []) × (o ≡ outcome.Turn r)

-- rows of this version, or a fault in reading them
abbrev pub AreRowsOf : ℕ → Outcome → Type 0
AreRowsOf v (outcome.Rows u count text) = u ≡ v
AreRowsOf v (outcome.Outside f) = ⊤
AreRowsOf v o = ⊥

-- what a scan comes to: its reply, or, where a version was opened, rows of it
abbrev pub ScanEnds : Reply → Outcome → Type 0
ScanEnds (reply.Opened v) o = AreRowsOf v o
ScanEnds r o = o ≡ outcome.Turn r

-- a partial load whose keys were found is prepared, which may fail, and has its last turn
abbrev pub PartialPublishes : List Turn → Outcome → Type 0
PartialPublishes [] o = IsOutside o
PartialPublishes (t ∷ ts) o = (t.part ≡ part.Last) × EndsWith t.reply ts o

abbrev pub PartialGoesOn : Outcome → Reply → List Turn → Type 0
PartialGoesOn o (reply.Opened v) ts = PartialPublishes ts o
PartialGoesOn o r ts = EndsWith r ts o

-- the plan is given up, and that has no line
abbrev pub IsGivenUp : List Turn → Type 0
IsGivenUp [] = ⊥
IsGivenUp (t ∷ ts) = (t.part ≡ part.GaveUp) × (ts ≡ [])

-- a compaction's last turn; one that wanted memory gives the plan up
abbrev pub CompactEnds : Reply → List Turn → Outcome → Type 0
CompactEnds reply.Memory ts o = IsGivenUp ts × (o ≡ outcome.Turn reply.Memory)
CompactEnds r ts o = EndsWith r ts o

-- a compaction that was begun merges; where that failed it gives its plan up
abbrev pub CompactMerged : ItemPart → Reply → List Turn → Outcome → Type 0
CompactMerged part.Whole r ts o = ⊥
CompactMerged part.First r ts o = ⊥
CompactMerged part.Last r ts o = CompactEnds r ts o
CompactMerged part.GaveUp r ts o = (ts ≡ []) × IsOutside o

abbrev pub CompactMerges : List Turn → Outcome → Type 0
CompactMerges [] o = ⊥
CompactMerges (t ∷ ts) o = CompactMerged t.part t.reply ts o

abbrev pub CompactGoesOn : Outcome → Reply → List Turn → Type 0
CompactGoesOn o (reply.Begun v) ts = CompactMerges ts o
CompactGoesOn o r ts = EndsWith r ts o

-- these are the turns of a job that has some, and this became of it
abbrev pub HasTurns : JobAct → List Turn → Outcome → Type 0
HasTurns (act.Load name) ts o = IsWhole ts (λ t. o ≡ outcome.Turn t.reply)
HasTurns (act.Partial name) ts o = IsFirst ts (PartialGoesOn o)
HasTurns (act.Scan want) ts o = IsWhole ts (λ t. ScanEnds t.reply o)
HasTurns act.Compact ts o = IsFirst ts (CompactGoesOn o)
HasTurns (act.Expire v) ts o = IsWhole ts (λ t. o ≡ outcome.Turn t.reply)
HasTurns act.Stat ts o = IsWhole ts (λ t. o ≡ outcome.Turn t.reply)

-- the course of a job: its turns, if it has any, and what became of it
abbrev pub IsCourse : Layout → FiledJob → List Turn → Outcome → Type 0
IsCourse s j [] o = WithoutTurn j.job.act (load_in s j) o
IsCourse s j (t ∷ ts) o = HasTurns j.job.act (t ∷ ts) o
