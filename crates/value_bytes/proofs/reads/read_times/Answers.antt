use Rattle.std.proofs.Common.{arith}
use Rattle.value_bytes.proofs.Reading.{stops}
use Rattle.value_bytes.proofs.reads.read_times.Goals as goal

pub returns-in-Err-clause-none : goal.returns-in-Err-clause-none
returns-in-Err-clause-none g c is = stops g.F.FieldReader.field g.met.F.FieldReader.tells c.args.bytes.now c.loop.left.now c.args.count c.loop.items (omega arith) c.loop.invariant.0 (c.in-Err.ensures.none is)
