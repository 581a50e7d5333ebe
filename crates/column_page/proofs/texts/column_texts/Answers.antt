use Rattle.std.proofs.Common.{arith, subst, sym, ◌∙◌, IsTrue}
use Rattle.pk_values.specs.Fits.{fits}
use Rattle.pk_values.specs.declared.cells.Value.{Value}
use Rattle.pk_values.specs.declared.cells.Value.TheVariants.{Null}
use Rattle.column_page.specs.Page.{column_cells}
use Rattle.column_page.proofs.TextFacts.{cell_here, length-column_cells, texts_more}
use Rattle.column_page.proofs.texts.column_texts.Goals as goal

pub push_text-requires-clause-fits : goal.push_text-requires-clause-fits
push_text-requires-clause-fits c =
    let rows = c.args.rows.now in
    let i = c.loop-row.row-index in
    let here = cell_here c.args.place i rows c.row-item.result c.row.inside.cells.items c.index.result.now c.loop-row-test.true (c.row.view_is ∙ c.row-item.is) c.requires.there c.index.ensures in
    subst (λ (v : Value). IsTrue (fits c.args.column.now v)) (sym here) (c.requires.fits i Null (omega (arith, length-column_cells c.args.place rows, c.loop-row-test.true)))

pub loop-row-preserved : goal.loop-row-preserved
loop-row-preserved c =
    let rows = c.args.rows.now in
    let i = c.loop-row.row-index in
    let pushed = c.in_ok-push_text.ensures in
    let here = cell_here c.args.place i rows c.row-item.result c.row.inside.cells.items c.index.result.now c.loop-row-test.true (c.row.view_is ∙ c.row-item.is) c.requires.there c.index.ensures in
    texts_more c.args.column.now (column_cells c.args.place rows) i Null c.index.result.now _ _ _ _ (omega (arith, length-column_cells c.args.place rows, c.loop-row-test.true)) here c.loop-row.invariant pushed.bytes pushed.lens
