use Rattle.pk_values.specs.SchemaFacts.{lawful_column}
use Rattle.pk_values.proofs.laws.schema_columns.Goals as goal

pub returns-clause-each : goal.returns-clause-each
returns-clause-each c = λ s i column lawful there. lawful_column s i column lawful there
