use Rattle.schema_json.proofs.TableLemmas.{counted_members}
use Rattle.schema_json.proofs.tables.has_two_members.Goals as goal

pub returns-in-Some : goal.returns-in-Some
returns-in-Some c = counted_members _ c.in-Some.object.now.entries _ 2 c.in-Some.ensures c.len.ensures.len
