use Rattle.std.proofs.Common.{◌+◌}
use Rattle.schema_json.proofs.TableLemmas.{one_more}
use Rattle.schema_json.proofs.tables.columns_of.Goals as goal

pub loop-i-preserved : goal.loop-i-preserved
loop-i-preserved c =
    rw c.in_ok-push_column-in-Ok.ensures.ok
    (one_more (c.loop-i.i + 1) c.loop-i.i c.args.items.now c.index-items-i.result c.loop-i.columns.items c.in-Ok.column _ c.loop-i-test.true c.index-items-i.is c.in-Ok.ensures.column c.loop-i.invariant)
