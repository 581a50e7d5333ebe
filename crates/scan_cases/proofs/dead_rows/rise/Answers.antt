use Rattle.std.proofs.Common.{arith}
use Rattle.scan_cases.proofs.RiseFacts.{rises_from}
use Rattle.scan_cases.proofs.dead_rows.rise.Goals as goal

pub returns : goal.returns
returns c = λ t. rises_from c.args.rows.now (λ k d lt. c.loop-i.invariant k d (omega arith))
