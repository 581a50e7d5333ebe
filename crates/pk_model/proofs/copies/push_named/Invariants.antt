use Rattle.std.proofs.Common.{◌≡◌, ◌++◌, take}
use Rattle.pk_model.specs.Tables.{touches}
use Rattle.pk_model.proofs.copies.push_named.Given as goal

abbrev pub invariant-loop-op : goal.invariant-loop-op
invariant-loop-op l = l.keys ≡ l.initial.keys ++ touches (take l.op-index l.ops)
