use Rattle.std.proofs.Common.{◌∷◌, refl}
use Rattle.journal_bytes.proofs.NoBody.{no_levels}
use Rattle.journal_bytes.proofs.record_readers.read_levels.Goals as goal

pub returns-in-Err-clause-none : goal.returns-in-Err-clause-none
returns-in-Err-clause-none c is = no_levels (5 ∷ c.args.rest.now) c.args.rest.now refl (c.in-Err.ensures.none is)
