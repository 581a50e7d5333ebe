use Rattle.std.proofs.Common.{◌∷◌, []}
use Rattle.column_page.proofs.TextFacts.{put_text}
use Rattle.column_page.proofs.pages.plain_page.Goals as goal

pub loop-cell-preserved : goal.loop-cell-preserved
loop-cell-preserved c =
    put_text (0 ∷ []) c.loop-cell.page.items c.extend_from_slice.new.self.items c.args.cells.now c.loop-cell.cell-index _ c.loop-cell-test.true c.loop-cell.invariant c.in_ok-extend_from_slice.ensures.items
