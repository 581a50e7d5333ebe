use Rattle.std.proofs.Common.{◌≡◌, ◌∙◌, ℕ, ◌<◌, ◌^◌, List, length, sym, subst, arith}
use Rattle.column_page.specs.Page.{column_cells, page_of}
use Rattle.column_page.proofs.TextFacts.{length-column_cells}
use Rattle.segment_form.proofs.Bodies.{page_small}
use Rattle.segment_write.proofs.pages.put_column.Goals as goal

pub put_sized-requires : goal.put_sized-requires
put_sized-requires c =
    let column = c.args.column.now in
    let cells = column_cells c.args.place c.args.rows.now in
    let same : c.as_slice.result.now ≡ page_of column cells = c.as_slice.ensures ∙ c.in_ok-page.ensures in
    subst (λ (page : List ℕ). length page < 2 ^ 32) (sym same) (page_small column cells c.requires.kind c.requires.fits (omega (arith, length-column_cells c.args.place c.args.rows.now, c.requires.few)))
