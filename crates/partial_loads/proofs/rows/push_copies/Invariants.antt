use Rattle.std.proofs.Common.{◌≡◌, ◌++◌, take}
use Rattle.partial_loads.proofs.rows.push_copies.Given as goal

abbrev pub invariant-loop-cell : goal.invariant-loop-cell
invariant-loop-cell l = l.row.items ≡ l.initial.row.items ++ take l.cell-index l.cells
