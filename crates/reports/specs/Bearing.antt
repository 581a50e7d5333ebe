-- Which faults outcomes tell, and what bears them out.
use Rattle.std.specs.Prelude.{◌≡◌, ◌⊎◌, ℕ, ◌≤◌, List, Option, Some, None, Bool as Truth, true, ◌==◌, ◌||◌, if◌then◌else◌, ⊤}
use Rattle.std.specs.List.{AllByRecursion}
use Rattle.dev_traits.specs.Causes.{RoseBy}
use Rattle.dev_traits.specs.declared.faults.OutsideFault.TheVariants as outside
use Rattle.pk_model.specs.declared.calls.Reply.TheVariants as reply
use Rattle.script_text.specs.declared.outcomes.Outcome.{Outcome}
use Rattle.script_text.specs.declared.outcomes.Outcome.TheVariants as outcome
use Rattle.reports.specs.declared.endings.Ending.TheVariants as ending
use Rattle.reports.specs.Endings.{ending_of, faults_told, gives, outcome_status, tells_fault}

-- an outcome tells no damage
abbrev pub TellsIntact : Outcome → Type 0
TellsIntact (outcome.Turn (reply.Damaged d)) = ⊥
TellsIntact (outcome.Outside (outside.Damaged d)) = ⊥
TellsIntact o = ⊤

-- an outcome doesn't tell that the tablet was closed
abbrev pub TellsOpen : Outcome → Type 0
TellsOpen (outcome.Turn (reply.Closed p)) = ⊥
TellsOpen o = ⊤

-- an outcome tells a fault or damage
abbrev pub tells_cause : Outcome → Truth
tells_cause o = tells_fault o || (outcome_status o == 5)

-- how many faults an outcome tells
abbrev pub told_by : Outcome → ℕ
told_by o = if tells_fault o then 1 else 0

-- How a job's outcome goes with what closes the tablet: it stays closed where it was; where it stays open the outcome doesn't tell that
-- it was closed; and where the job closed it, the outcome tells why.
abbrev pub GoesShut : Option ℕ → Option ℕ → Outcome → Type 0
GoesShut (Some p) now o = now ≡ Some p
GoesShut None None o = TellsOpen o
GoesShut None (Some q) o = tells_cause o ≡ true

-- Outcomes are borne out: the count rose by at least as many faults as they tell, or to its last value; a tablet that is closed was closed
-- by a fault or damage that some outcome tells; and while it is open no outcome tells that it was closed.
pub record AreBorneOut (before now : ℕ) (closed : Option ℕ) (outcomes : List Outcome) : Type 0 where
  pub rose : RoseBy (faults_told outcomes) before now
  pub shut : (p : ℕ) → closed ≡ Some p → (1 ≤ faults_told outcomes) ⊎ (gives 5 outcomes ≡ true)
  pub opened : closed ≡ None → AllByRecursion TellsOpen outcomes

-- so where outcomes end by a fault of the store, its count rose
abbrev pub FaultsAreCounted : Type 0
FaultsAreCounted = (before now : ℕ) (closed : Option ℕ) (outcomes : List Outcome)
    → AreBorneOut before now closed outcomes → ending_of outcomes ≡ ending.Store → RoseBy 1 before now

-- and where they tell no damage, they don't end by one
abbrev pub IntactEndsWell : Type 0
IntactEndsWell = (outcomes : List Outcome) → AllByRecursion TellsIntact outcomes → gives 5 outcomes ≡ true → ⊥
