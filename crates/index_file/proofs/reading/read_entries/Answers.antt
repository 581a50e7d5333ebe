use Rattle.std.proofs.Common.{arith}
use Rattle.index_file.proofs.SequenceFacts.{none_left, none_next, reads_on}
use Rattle.index_file.proofs.reading.read_entries.Goals as goal

pub returns-in-None-clause-none : goal.returns-in-None-clause-none
returns-in-None-clause-none c es are =
    none_next c.args.bytes.now c.loop-n._n c.loop-n.at c.args.count c.loop-n.entries.items c.loop-n.invariant c.loop-n-test.true c.in-None.ensures es are

pub loop-n-preserved : goal.loop-n-preserved
loop-n-preserved c =
    reads_on c.args.bytes.now c.loop-n._n c.loop-n.at c.in-Some.taken c.loop-n.entries.items c.push.new.self.items c.in-Some.entry c.loop-n.invariant c.in-Some.ensures c.in_ok-push-in-Some.ensures.items

pub returns-else-at-bytes-clause-none : goal.returns-else-at-bytes-clause-none
returns-else-at-bytes-clause-none c es are =
    none_left c.args.bytes.now c.loop-n._n c.loop-n.at c.args.count c.loop-n.entries.items c.loop-n.invariant (omega arith) c.if-at-bytes.false es are
