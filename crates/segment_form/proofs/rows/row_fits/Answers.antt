use Rattle.std.proofs.Common.{◌≡◌, length, ap, sym, List, arith}
use Rattle.std.proofs.lemmas.Bool.{false_from_ne_true}
use Rattle.pk_values.specs.Schemas.{fits_row}
use Rattle.pk_values.specs.SchemaFacts.{length-fits_all}
use Rattle.pk_values.specs.declared.cells.Value.{Value}
use Rattle.pk_values.specs.declared.cells.Column.{Column}
use Rattle.segment_form.proofs.rows.row_fits.Goals as goal

pub returns-then-len-columns : goal.returns-then-len-columns
returns-then-len-columns c =
    let s = c.args.schema.now in
    let row = c.args.row.now in
    let cells : length c.row.inside.cells.items ≡ length row = ap (λ (r : List Value). length r) c.row.view_is in
    let columns : length c.columns-columns.result.now ≡ length s.columns = ap (λ (cs : List Column). length cs) (c.columns-columns.ensures).value in
    sym (false_from_ne_true (fits_row s row) (λ e. let same = length-fits_all s.columns row e in c.if-len-columns.true (omega (arith, c.row.inside.cells.ok.0, c.len.ensures))))
