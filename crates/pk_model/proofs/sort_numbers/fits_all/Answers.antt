use Rattle.std.proofs.Common.{sym}
use Rattle.pk_model.proofs.FitLaws.{fits-width}
use Rattle.pk_model.proofs.sort_numbers.fits_all.Goals as goal

pub returns-then-cells-columns : goal.returns-then-cells-columns
returns-then-cells-columns c = sym (fits-width c.args.columns.now c.args.cells.now c.if-cells-columns.true)
