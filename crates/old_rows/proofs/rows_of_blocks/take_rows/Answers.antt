use Rattle.std.proofs.Common.{◌∙◌, length-set}
use Rattle.old_rows.proofs.TakeFacts.{at-index, fills-all, fills-next, taken-key}
use Rattle.old_rows.proofs.rows_of_blocks.take_rows.Goals as goal

pub loop-w-preserved : goal.loop-w-preserved
loop-w-preserved c = record {
  fills =
      fills-next c.args.schema.now c.args.rows.now c.args.dead.now c.args.keys.now c.args.wanted.now c.loop-w.w-index _ c.index-keys-w.result c.in_ok-row.row c.args.olds.now.items c.loop-w.olds.items
      c.loop-w-test.true (c.requires.there c.loop-w.w-index _ c.loop-w-test.true) (at-index c.args.keys.now _ c.index-keys-w.result (c.requires.there c.loop-w.w-index _ c.loop-w-test.true) c.index-keys-w.is) (taken-key _ _ _ _ c.index-keys-w.result _ _ c.index-keys-w.is c.in_ok-row.ensures.taken) c.loop-w.invariant.fills;
  long = length-set _ _ _ ∙ c.loop-w.invariant.long;
}

pub returns-clause-taken : goal.returns-clause-taken
returns-clause-taken c =
    fills-all c.args.schema.now c.args.rows.now c.args.dead.now c.args.keys.now c.args.wanted.now c.loop-w.w-index c.args.olds.now.items c.loop-w.olds.items c.loop-w-test.false c.loop-w.invariant.fills
