use Rattle.column_page.proofs.TextFacts.{texts_more}
use Rattle.column_page.proofs.texts.texts_of.Goals as goal

pub loop-value-preserved : goal.loop-value-preserved
loop-value-preserved c =
    let pushed = c.in_ok-push_text.ensures in
    texts_more c.args.column.now c.args.cells.now c.loop-value.value-index c.value-item.result c.value-item.result _ _ _ _ c.loop-value-test.true c.value-item.is c.loop-value.invariant pushed.bytes pushed.lens
