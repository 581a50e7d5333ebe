-- The cause and the status that a run ends with.
use Rattle.std.specs.Prelude.{ℕ}
use Rattle.reports.specs.declared.endings.Ending.{Ending}
use Rattle.reports.specs.declared.endings.Ending.TheVariants as ending
use Rattle.tablet_run.specs.declared.causes.Cause.{Cause}
use Rattle.tablet_run.specs.declared.causes.Cause.TheVariants as cause

-- the cause of a run by how its jobs ended
abbrev pub cause_of : Ending → Cause
cause_of ending.Well = cause.None
cause_of ending.Refused = cause.Refused
cause_of ending.Memory = cause.Memory
cause_of ending.Store = cause.Store
cause_of (ending.Damaged d) = cause.Damaged d

-- the status of a cause
abbrev pub cause_status : Cause → ℕ
cause_status cause.None = 0
cause_status cause.Refused = 1
cause_status cause.Words = 2
cause_status (cause.Table f) = 2
cause_status (cause.Script f) = 2
cause_status (cause.Unbuilt n) = 2
cause_status (cause.OtherSchema t) = 2
cause_status (cause.Missing name) = 3
cause_status (cause.InputFault name) = 3
cause_status (cause.TooLarge name bytes) = 3
cause_status cause.Store = 4
cause_status (cause.Damaged d) = 5
cause_status cause.Sink = 6
cause_status cause.Memory = 7
