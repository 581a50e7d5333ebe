use Rattle.std.proofs.Common.{◌≡◌, ◌+◌, drop}
use Rattle.pk_model.specs.Lines.{are_counted}
use Rattle.pk_model.proofs.lines.are_counted.Given as goal

abbrev pub invariant-loop-place : goal.invariant-loop-place
invariant-loop-place l = (are_counted l.next (drop l.place-index l.places) ≡ are_counted l.fn.first l.fn.places) × (l.next ≡ l.fn.first + l.place-index)
