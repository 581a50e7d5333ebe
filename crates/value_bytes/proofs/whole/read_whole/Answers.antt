use Rattle.value_bytes.proofs.Reading.{not_begun, not_empty, not_ended}
use Rattle.value_bytes.proofs.whole.read_whole.Goals as goal

pub returns-in-Err-clause-none : goal.returns-in-Err-clause-none
returns-in-Err-clause-none g c is = not_begun g.F.FieldReader.field c.args.bytes.now (c.in-Err.ensures.none is)

pub returns-else-is_empty-clause-none : goal.returns-else-is_empty-clause-none
returns-else-is_empty-clause-none g c is = not_ended g.F.FieldReader.field g.met.F.FieldReader.tells c.args.bytes.now c.in-Ok.rest.now c.in-Ok.value (not_empty c.in-Ok.rest.now c.is_empty.result c.is_empty.ensures c.if-is_empty.false) c.in-Ok.ensures.one
