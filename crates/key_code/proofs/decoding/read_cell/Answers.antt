use Rattle.std.proofs.Common.{sym, ◌∙◌}
use Rattle.key_code.proofs.DecodeLemmas.{cell_found_at, cell_unfit_at}
use Rattle.key_code.proofs.decoding.read_cell.Goals as goal

pub returns-then-fits : goal.returns-then-fits
returns-then-fits c =
    cell_found_at c.args.last c.args.kind c.args.bytes.now c.in_ok-value.field-0 c.in-Some.value c.in-Some.taken c.in-Some.is c.in_ok-value.ensures.front c.in_ok-value.ensures.ends (sym c.fits.ensures ∙ c.if-fits.true)

pub returns-else-fits : goal.returns-else-fits
returns-else-fits c =
    cell_unfit_at c.args.last c.args.kind c.args.bytes.now c.in_ok-value.field-0 c.in-Some.value c.in-Some.taken c.in-Some.is c.in_ok-value.ensures.front c.in_ok-value.ensures.ends (sym c.fits.ensures ∙ c.if-fits.false)
