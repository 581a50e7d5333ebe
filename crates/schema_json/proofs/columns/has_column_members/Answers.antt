use Rattle.schema_json.proofs.TableLemmas.{counted_column}
use Rattle.schema_json.proofs.columns.has_column_members.Goals as goal

pub returns-in-Some : goal.returns-in-Some
returns-in-Some c = counted_column _ c.in-Some.object.now.entries _ _ _ c.in-Some.ensures c.len.ensures.len c.count_of-nullable.ensures c.count_of-default.ensures
