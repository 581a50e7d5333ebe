use Rattle.std.proofs.Common.{◌≡◌, length}
use Rattle.value_bytes.specs.Reads.{HasRead}
use Rattle.value_bytes.proofs.reads.read_times.Given as goal

abbrev pub invariant-loop : goal.invariant-loop
invariant-loop g l = HasRead g.F.FieldReader.field l.bytes l.items l.left × (length l.items ≡ l.counter)
