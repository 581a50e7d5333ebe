use Rattle.std.proofs.Common.{◌≡◌, ◌++◌, take}
use Rattle.pk_model.proofs.copies.push_keys.Given as goal

abbrev pub invariant-loop-key : goal.invariant-loop-key
invariant-loop-key l = l.keys ≡ l.initial.keys ++ take l.key-index l.more
