use Rattle.reports.proofs.laws.follows.Goals as goal

pub returns-clause-reports : goal.returns-clause-reports
returns-clause-reports c = λ s book jobs order outcomes r. record { turns = r.turns; placed = r.run.goes.placed; fits = r.run.goes.fits; order_is = r.order_is }

pub returns-clause-goes : goal.returns-clause-goes
returns-clause-goes c = λ s jobs turns entries order outcomes is goes. record { turns = turns; placed = goes.placed; fits = goes.fits; order_is = is }

pub returns-clause-runs : goal.returns-clause-runs
returns-clause-runs c = λ s book jobs turns entries order outcomes is run. record { turns = turns; entries = entries; run = run; order_is = is }
