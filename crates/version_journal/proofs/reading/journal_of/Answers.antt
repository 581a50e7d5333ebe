use Rattle.std.proofs.Common.{◌≡◌, Option, None, MatchOption, subst}
use Rattle.version_journal.specs.Reading.{MeanNothing}
use Rattle.version_journal.proofs.reading.journal_of.Goals as goal

unmatched : {T : Type 0} (o : Option T) (P : Type 0) (Q : T → Type 0) → o ≡ None → MatchOption o P Q → P
unmatched {T} o P Q e m = subst (λ (y : Option T). MatchOption y P Q) e m

pub returns-in-Ok-None-clause-nothing : goal.returns-in-Ok-None-clause-nothing
returns-in-Ok-None-clause-nothing c d e = subst MeanNothing c.deref.ensures.value (unmatched c.in-Ok-None.field-0 _ _ c.in-Ok-None.field-0-is c.in-Ok-None.ensures)
