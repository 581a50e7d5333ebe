use Rattle.reports.proofs.BearingLaws.{faults-are-counted, intact-ends-well}
use Rattle.reports.proofs.laws.bearing.Goals as goal

pub returns-clause-counted : goal.returns-clause-counted
returns-clause-counted c = faults-are-counted

pub returns-clause-intact : goal.returns-clause-intact
returns-clause-intact c = intact-ends-well
