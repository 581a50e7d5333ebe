use Rattle.std.specs.FinMap.{values}
use Rattle.tablet_run.proofs.LaneFacts.{told-fault, told-text}
use Rattle.tablet_run.proofs.lanes.read_out.Goals as goal

pub returns-in-Ok-clause-rows : goal.returns-in-Ok-clause-rows
returns-in-Ok-clause-rows g c = λ m come e. told-text c.args.version m c.args.count c.in-Ok.text e (c.in-Ok.ensures.rows (values m) come)

pub returns-in-Err-clause-rows : goal.returns-in-Err-clause-rows
returns-in-Err-clause-rows g c = λ m come e. told-fault c.args.version m c.in-Err.fault (λ d is. c.in-Err.ensures.intact d is (values m) come)
