use Rattle.pk_values.specs.SchemaFacts.{fits_all-take, length-fits_all}
use Rattle.pk_values.proofs.laws.row_and_key.Goals as goal

pub returns-clause-cells : goal.returns-clause-cells
returns-clause-cells c = λ s row fits. length-fits_all s.columns row fits

pub returns-clause-key : goal.returns-clause-key
returns-clause-key c = λ s row fits. fits_all-take s.keys s.columns row fits
