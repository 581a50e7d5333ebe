use Rattle.std.proofs.Common.{◌∷◌, refl}
use Rattle.journal_bytes.proofs.NoBody.{no_compact}
use Rattle.journal_bytes.proofs.record_readers.read_compact.Goals as goal

pub returns-in-Err-clause-none : goal.returns-in-Err-clause-none
returns-in-Err-clause-none c is = no_compact (3 ∷ c.args.rest.now) c.args.rest.now refl (c.in-Err.ensures.none is)
