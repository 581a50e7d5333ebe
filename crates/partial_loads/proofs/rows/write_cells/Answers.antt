use Rattle.std.proofs.Common.{sym, ◌∙◌}
use Rattle.std.proofs.lemmas.Option.{MatchOption-at_none}
use Rattle.pk_model.proofs.CellLaws.{with_cells-none_left}
use Rattle.partial_loads.proofs.rows.write_cells.Goals as goal

pub returns-in-None : goal.returns-in-None
returns-in-None c = sym (with_cells-none_left _ _ _ (sym c.loop-place.cells.rest.ok.0 ∙ (MatchOption-at_none _ _ c.in-None.is c.next.ensures.cases).0)) ∙ c.loop-place.invariant
