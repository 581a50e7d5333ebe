use Rattle.std.proofs.Common.{refl}
use Rattle.index_file.proofs.laws.hashes.Goals as goal

pub returns : goal.returns
returns c = (refl, refl)
