use Rattle.std.proofs.Common.{◌≡◌, drop}
use Rattle.std.specs.Vec.Iter.{into_iter_items}
use Rattle.pk_model.specs.Tables.{with_cells}
use Rattle.partial_loads.proofs.rows.write_cells.Given as goal

abbrev pub invariant-loop-place : goal.invariant-loop-place
invariant-loop-place l = with_cells (drop l.place-index l.given) (into_iter_items l.cells) l.row ≡ with_cells l.given l.fn.line l.fn.row
