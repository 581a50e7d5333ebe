use Rattle.std.proofs.Common.{◌≡◌, drop}
use Rattle.pk_values.specs.Fits.{fits_all}
use Rattle.pk_model.proofs.sort_numbers.fits_all.Given as goal

abbrev pub invariant-loop-i : goal.invariant-loop-i
invariant-loop-i l = fits_all (drop l.i l.columns) (drop l.i l.cells) ≡ fits_all l.columns l.cells
