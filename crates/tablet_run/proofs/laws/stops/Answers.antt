use Rattle.tablet_run.proofs.StopLaws.{causes-exclude, jobs-exclude}
use Rattle.tablet_run.proofs.laws.stops.Goals as goal

pub returns-clause-exclude : goal.returns-clause-exclude
returns-clause-exclude c = causes-exclude

pub returns-clause-jobs : goal.returns-clause-jobs
returns-clause-jobs c = jobs-exclude
