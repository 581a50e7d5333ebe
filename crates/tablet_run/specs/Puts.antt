-- How a report is put.
use Rattle.std.specs.Prelude.{◌≡◌, ◌⊎◌, ℕ, List, Option}
use Rattle.script_text.specs.Texts.{report}
use Rattle.script_text.specs.declared.outcomes.Item.{Item}
use Rattle.script_text.specs.declared.outcomes.Outcome.{Outcome}
use Rattle.reports.specs.declared.endings.Ending.{Ending}
use Rattle.reports.specs.Endings.{ending_of}
use Rattle.tablet_run.specs.Statuses.{cause_of}
use Rattle.tablet_run.specs.Streams.{FailsAfter, HeldAfter}
use Rattle.tablet_run.specs.declared.causes.Cause.{Cause}
use Rattle.tablet_run.specs.declared.causes.Cause.TheVariants as cause

-- what telling an order and outcomes comes to: the report is put, the sink failed behind a part of it, or its text wanted memory and nothing was put
abbrev pub ToldAs : Option (List ℕ) → Option (List ℕ) → List Item → List Outcome → Cause → Type 0
ToldAs before now order outcomes cause.Sink = FailsAfter before now (report order outcomes)
ToldAs before now order outcomes cause.Memory = (now ≡ before) ⊎ (HeldAfter before now (report order outcomes) × (cause.Memory ≡ cause_of (ending_of outcomes)))
ToldAs before now order outcomes c = HeldAfter before now (report order outcomes) × (c ≡ cause_of (ending_of outcomes))
