use Rattle.std.proofs.Common.{List, ap, sym, ◌∙◌, slice_get}
use Rattle.pk_values.specs.declared.cells.Value.{Value}
use Rattle.column_page.proofs.pages.decode_cell.Goals as goal

pub returns-clause-cell : goal.returns-clause-cell
returns-clause-cell c =
    let found = c.in_ok-cells.ensures in
    record { cells = c.in_ok-cells.cells.items; are = found.cells; written = found.page; at = c.take_value.ensures }

pub returns-clause-only : goal.returns-clause-only
returns-clause-only c cells are e =
    ap (λ (vs : List Value). slice_get vs c.args.place) (sym (c.in_ok-cells.ensures.only cells are e)) ∙ c.take_value.ensures
