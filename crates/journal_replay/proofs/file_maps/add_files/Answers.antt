use Rattle.std.specs.BTreeMap.{get}
use Rattle.std.specs.Ordering.{nat_cmp}
use Rattle.journal_replay.proofs.LoopFacts.{added_on, head_is}
use Rattle.journal_replay.proofs.file_maps.add_files.Goals as goal

pub loop-left-preserved : goal.loop-left-preserved
loop-left-preserved c =
    added_on c.loop-left.left.now _ _ (get nat_cmp c.loop-left.files) (get nat_cmp c.insert.new.self) (get nat_cmp c.args.files.now) c.args.new.now c.empty.result
    (head_is (record { file = 0; rows = 0 }) c.loop-left.left.now c.in-len1-up.len_at_least) c.empty.ensures c.loop-left.invariant c.in_ok-insert.ensures.updates.0
