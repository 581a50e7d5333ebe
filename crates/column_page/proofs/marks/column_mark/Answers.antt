use Rattle.std.proofs.Common.{◌≡◌, ◌+◌, ◌-◌, ◌<◌, ◌≤◌, ℕ, List, length, get_or, drop, ap, sym, ◌∙◌, arith}
use Rattle.std.proofs.lemmas.List.{drop_more}
use Rattle.pk_values.specs.declared.cells.Value.{Value}
use Rattle.pk_values.specs.declared.cells.Value.TheVariants.{Null}
use Rattle.column_page.specs.declared.footers.ColumnMark.{ColumnMark}
use Rattle.column_page.specs.Footers.{mark_of, with_cell}
use Rattle.column_page.specs.Page.{column_cells}
use Rattle.column_page.proofs.TextFacts.{cell_here, length-column_cells}
use Rattle.column_page.proofs.marks.column_mark.Goals as goal

pub loop-left-preserved : goal.loop-left-preserved
loop-left-preserved c =
    let rows = c.args.rows.now in
    let cells = column_cells c.args.place rows in
    let i = c.loop-left.left - 1 in
    let within : c.loop-left.left ≤ length rows = c.loop-left.invariant.within in
    let lt : i < length rows = omega (arith, c.loop-left-test.true) in
    let here = cell_here c.args.place i rows c.index-rows-left.result c.row.inside.cells.items c.index.result.now lt (c.row.view_is ∙ c.index-rows-left.is) c.requires c.index.ensures in
    let next : i + 1 ≡ c.loop-left.left = omega (arith, c.loop-left-test.true) in
    record {
      within = omega arith;
      so_far =
          c.with_one-mark.ensures ∙ ap (with_cell c.index.result.now) c.loop-left.invariant.so_far ∙ ap (λ (v : Value). with_cell v (mark_of (drop c.loop-left.left cells))) here
          ∙ ap (λ (k : ℕ). with_cell (get_or cells i Null) (mark_of (drop k cells))) (sym next) ∙ ap mark_of (sym (drop_more cells i Null (omega (arith, length-column_cells c.args.place rows))));
    }
