use Rattle.std.proofs.Common.{◌≡◌, [], take, drop}
use Rattle.pk_values.specs.Schemas.{columns_fault}
use Rattle.pk_values.proofs.schemas.columns_fault.Given as goal

-- the columns so far have no fault
abbrev pub invariant-loop-i : goal.invariant-loop-i
invariant-loop-i l = columns_fault l.keys [] l.columns ≡ columns_fault l.keys (take l.i l.columns) (drop l.i l.columns)
