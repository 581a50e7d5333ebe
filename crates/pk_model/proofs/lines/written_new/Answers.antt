use Rattle.std.proofs.Common.{◌≡◌, ap, sym, subst, ◌∙◌, IfOk, length}
use Rattle.pk_model.specs.Lines.{is_whole}
use Rattle.pk_model.proofs.CellLaws.{whole-line}
use Rattle.pk_model.proofs.lines.written_new.Goals as goal

pub returns-then-is_whole-clause-row : goal.returns-then-is_whole-clause-row
returns-then-is_whole-clause-row c =
    let s = c.args.schema.now in
    let given = c.args.given.now in
    let key = c.args.key in
    let cells = c.args.cells in
    subst (λ row. IfOk c.joined.result (λ pair. pair.1 ≡ row))
    (sym (whole-line s given key cells (ap (is_whole s given (length key)) (sym c.len.ensures) ∙ sym c.is_whole.ensures ∙ c.if-is_whole.true)))
    c.joined.ensures.row
