use Rattle.std.proofs.Common.{◌≡◌, ◌++◌, map, take}
use Rattle.pk_model.specs.Tables.{default_cell}
use Rattle.partial_loads.proofs.rows.push_defaults.Given as goal

abbrev pub invariant-loop-column : goal.invariant-loop-column
invariant-loop-column l = l.row.items ≡ l.initial.row.items ++ map default_cell (take l.column-index l.columns)
