use Rattle.column_page.proofs.MarkFacts.{nulls_are, span_is}
use Rattle.column_page.proofs.laws.column_marks.Goals as goal

pub returns-clause-nulls : goal.returns-clause-nulls
returns-clause-nulls c cells = nulls_are cells

pub returns-clause-span : goal.returns-clause-span
returns-clause-span c cells = span_is cells
