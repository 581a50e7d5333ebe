use Rattle.std.proofs.Common.{refl}
use Rattle.partial_loads.proofs.laws.example.Goals as goal

pub returns-clause-moved : goal.returns-clause-moved
returns-clause-moved c = (refl, refl, refl, refl)

pub returns-clause-right : goal.returns-clause-right
returns-clause-right c = (refl, refl, refl, refl)

pub returns-clause-twice : goal.returns-clause-twice
returns-clause-twice c = (refl, refl)

pub returns-clause-held : goal.returns-clause-held
returns-clause-held c = (refl, refl)
