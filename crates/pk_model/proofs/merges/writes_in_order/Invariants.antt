use Rattle.std.proofs.Common.{◌≡◌, drop, T}
use Rattle.pk_model.specs.Tables.{writes}
use Rattle.pk_model.specs.Merges.{rise}
use Rattle.pk_model.proofs.merges.writes_in_order.Given as goal

abbrev pub invariant-loop-i : goal.invariant-loop-i
invariant-loop-i l = (writes (drop l.i l.ops) ≡ writes l.ops) × T (rise (drop l.i l.ops))
