use Rattle.std.proofs.Common.{◌≡◌, take}
use Rattle.pk_model.proofs.calls.Load.copy.Given as goal

abbrev pub invariant-loop-place : goal.invariant-loop-place
invariant-loop-place l = l.given ≡ take l.place-index l.self.given

abbrev pub invariant-loop-op : goal.invariant-loop-op
invariant-loop-op l = l.ops ≡ take l.op-index l.self.ops
