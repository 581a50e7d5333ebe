use Rattle.std.proofs.Common.{◌≡◌, ℕ, ◌<◌, List, length, get_or, sym, ap, ◌∙◌, subst, IsTrue}
use Rattle.pk_values.specs.Schemas.{is_kind}
use Rattle.pk_values.specs.declared.cells.Column.{Column}
use Rattle.pk_values.specs.declared.cells.Value.{Value}
use Rattle.column_page.specs.Page.{AllFit}
use Rattle.segment_form.specs.Segments.{column_cells}
use Rattle.segment_form.proofs.Bodies.{body_long}
use Rattle.segment_form.proofs.Fitting.{column_fits, have_column, typed_at}
use Rattle.segment_write.proofs.pages.block_pages.Goals as goal

-- the column at hand is that of the schema
here : (columns theirs : List Column) (i : ℕ) (column : Column) → columns ≡ theirs → column ≡ get_or columns i column → get_or theirs i column ≡ column
here columns theirs i column same is = ap (λ (cs : List Column). get_or cs i column) (sym same) ∙ sym is

within : (columns theirs : List Column) (i : ℕ) → columns ≡ theirs → i < length columns → i < length theirs
within columns theirs i same lt = subst (λ (cs : List Column). i < length cs) same lt

pub put_column-requires-clause-kind : goal.put_column-requires-clause-kind
put_column-requires-clause-kind c =
    let s = c.args.schema.now in
    let column = c.index-columns-i.result in
    let same = (c.columns-columns.ensures).value in
    subst (λ (k : Column). IsTrue (is_kind k.kind)) (here c.columns-columns.result.now s.columns c.loop-i.i column same c.index-columns-i.is)
    (typed_at s (c.columns-columns.ensures).valid c.loop-i.i column (within c.columns-columns.result.now s.columns c.loop-i.i same c.loop-i-test.true))

pub put_column-requires-clause-there : goal.put_column-requires-clause-there
put_column-requires-clause-there c =
    let s = c.args.schema.now in
    let same = (c.columns-columns.ensures).value in
    have_column s c.loop-i.i c.args.rows.now c.requires.fit (within c.columns-columns.result.now s.columns c.loop-i.i same c.loop-i-test.true)

pub put_column-requires-clause-fits : goal.put_column-requires-clause-fits
put_column-requires-clause-fits c =
    let s = c.args.schema.now in
    let column = c.index-columns-i.result in
    let same = (c.columns-columns.ensures).value in
    subst (λ (k : Column). AllFit k (column_cells c.loop-i.i c.args.rows.now)) (here c.columns-columns.result.now s.columns c.loop-i.i column same c.index-columns-i.is)
    (column_fits s c.args.rows.now c.requires.fit c.loop-i.i column (within c.columns-columns.result.now s.columns c.loop-i.i same c.loop-i-test.true))

pub returns-clause-short : goal.returns-clause-short
returns-clause-short c = body_long c.args.schema.now c.args.rows.now (c.columns-columns.ensures).valid c.requires.fit c.requires.few
