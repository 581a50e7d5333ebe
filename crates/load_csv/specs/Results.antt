-- Steps that may end in a fault.
use Rattle.std.specs.Prelude.{Result, Ok, Err}

-- what follows a step that went well; the first fault decides
infixl 10 ◌and_then◌
abbrev pub ◌and_then◌ : {T U E : Type 0} → Result T E → (T → Result U E) → Result U E
Ok x and_then next = next x
Err fault and_then next = Err fault
