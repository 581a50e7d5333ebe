-- What opening a tablet answers.
use Rattle.std.specs.Prelude.{◌≡◌, ⊤, Result, Ok, Err}
use Rattle.tablet_state.specs.State.{Shown}
use Rattle.core_recover.specs.declared.faults.OpenFault.{OpenFault}
use Rattle.core_recover.specs.declared.faults.OpenFault.TheVariants as fault

-- want of the store or of memory
abbrev pub IsWant : OpenFault → Type 0
IsWant fault.StoreFault = ⊤
IsWant fault.Memory = ⊤
IsWant fault.Empty = ⊥
IsWant (fault.Damaged damaged) = ⊥

-- the store that is left
abbrev pub store_left : {S : Type 0} → Result (Shown S) (S × OpenFault) → S
store_left (Ok st) = st.store
store_left (Err e) = e.0
