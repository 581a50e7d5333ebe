use Rattle.std.proofs.Common.{◌≡◌, map, take}
use Rattle.pk_model.specs.Tables.{key_named}
use Rattle.pk_model.specs.declared.calls.Op.TheVariants as line
use Rattle.core_partial.proofs.locating.deletes.Given as goal

abbrev pub invariant-loop-op : goal.invariant-loop-op
invariant-loop-op l = l.lines.items ≡ map (λ op. line.Delete (key_named op)) (take l.op-index l.ops)
