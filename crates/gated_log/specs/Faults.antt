-- Why a call on a log told a fault of the store.
use Rattle.std.specs.Prelude.{ℕ, Result}
use Rattle.dev_traits.specs.Causes.{HasCauseOf}
use Rattle.gated_log.specs.declared.fault.LogFault.{LogFault}
use Rattle.gated_log.specs.declared.fault.LogFault.TheVariants.{StoreFault}

-- a fault of the store is counted once, and whatever else is answered counts none
abbrev pub HasLogCause : {T : Type 0} → ℕ → ℕ → Result T LogFault → Type 0
HasLogCause before now result = HasCauseOf StoreFault before now result
