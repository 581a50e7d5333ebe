use Rattle.pk_model.proofs.CellLaws.{carried-cells, other-cells}
use Rattle.pk_model.proofs.laws.cells_of_a_line.Goals as goal

pub returns-clause-carried : goal.returns-clause-carried
returns-clause-carried c = carried-cells

pub returns-clause-other : goal.returns-clause-other
returns-clause-other c = other-cells
