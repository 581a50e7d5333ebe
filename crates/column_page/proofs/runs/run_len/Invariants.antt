use Rattle.std.proofs.Common.{◌≡◌, ◌++◌, replicate, drop}
use Rattle.column_page.specs.Texts.{lent}
use Rattle.column_page.proofs.runs.run_len.Given as goal

abbrev pub invariant-loop-i : goal.invariant-loop-i
invariant-loop-i l = lent l.cells ≡ replicate l.i l.first ++ drop l.i (lent l.cells)
