use Rattle.std.proofs.Common.{◌≡◌, ◌++◌, drop, sym, ap, ◌∙◌, subst, take-append-drop, IsTrue}
use Rattle.std.proofs.lemmas.Bool.{false≢true}
use Rattle.pk_values.specs.Fits.{fits_kind}
use Rattle.pk_values.specs.declared.cells.Value.{Value}
use Rattle.column_page.specs.CellBytes.{value_bytes}
use Rattle.column_page.proofs.OneCell.{shape_of, value_one}
use Rattle.column_page.proofs.reads.read_fitting.Goals as goal

pub returns-else-fits-clause-none : goal.returns-else-fits-clause-none
returns-else-fits-clause-none c is v rest f same =
    let read = c.in_ok-read.ensures in
    let first = read.first in
    let whole : value_bytes c.args.kind c.in_ok-read.read.value ++ drop c.in_ok-read.read.len c.args.bytes.now ≡ c.args.bytes.now =
    ap (λ t. t ++ drop c.in_ok-read.read.len c.args.bytes.now) (sym first.front) ∙ take-append-drop c.in_ok-read.read.len c.args.bytes.now in
    let one = value_one c.args.kind v c.in_ok-read.read.value (shape_of c.args.kind v c.requires f) read.shape rest (drop c.in_ok-read.read.len c.args.bytes.now) (same ∙ sym whole) in
    let fit : IsTrue (fits_kind c.args.kind c.in_ok-read.read.value) = subst (λ (x : Value). IsTrue (fits_kind c.args.kind x)) one f in
    false≢true (sym c.if-fits.false ∙ c.fits.ensures ∙ fit)
