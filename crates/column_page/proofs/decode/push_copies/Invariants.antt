use Rattle.std.proofs.Common.{◌≡◌, ◌++◌, replicate}
use Rattle.column_page.proofs.decode.push_copies.Given as goal

abbrev pub invariant-loop-i : goal.invariant-loop-i
invariant-loop-i l = l.values.items ≡ l.initial.values.items ++ replicate l.i l.value
