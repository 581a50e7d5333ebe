use Rattle.std.proofs.Common.{◌^◌, ◌-◌}
use Rattle.tablet_state.proofs.Counting.{at_index}
use Rattle.tablet_state.proofs.ReadyFacts.{files_step}
use Rattle.core_recover.proofs.naming.has_many_files.Goals as goal

pub loop-rowset-preserved : goal.loop-rowset-preserved
loop-rowset-preserved c =
    files_step c.rowsets-rowset-items.result.now c.loop-rowset.rowset-index (2 ^ 64 - 1) c.loop-rowset.files c.len.result c.saturating_add-files.result c.rowset-item.result
    (at_index c.rowsets-rowset-items.result.now c.loop-rowset.rowset-index c.rowset-item.result c.loop-rowset-test.true c.rowset-item.is)
    c.len.ensures c.loop-rowset.invariant c.saturating_add-files.ensures
