use Rattle.reports.proofs.PartCalls.{calls-of-tasks}
use Rattle.reports.proofs.laws.parts.Goals as goal

pub returns : goal.returns
returns c = calls-of-tasks
