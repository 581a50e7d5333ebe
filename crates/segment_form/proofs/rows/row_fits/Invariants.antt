use Rattle.std.proofs.Common.{◌≡◌, drop}
use Rattle.pk_values.specs.Fits.{fits_all}
use Rattle.segment_form.proofs.rows.row_fits.Given as goal

abbrev pub invariant-loop-i : goal.invariant-loop-i
invariant-loop-i l = fits_all l.columns l.row ≡ fits_all (drop l.i l.columns) (drop l.i l.row)
