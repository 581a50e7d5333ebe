use Rattle.std.proofs.Common.{◌∙◌}
use Rattle.dev_memory.proofs.Beginning.{kept-first, held-first}
use Rattle.dev_memory.proofs.kept.Kept.new.Goals as goal

pub invariant_of-result : goal.invariant_of-result
invariant_of-result c = kept-first _ _ _ _ _ _ _ _ c.new.ensures.items c.new-2.ensures.items c.requires.three c.requires.short c.requires.short_files c.requires.settled (c.in_ok-areas.ensures ∙ c.deref.ensures.value)

pub returns-clause-held : goal.returns-clause-held
returns-clause-held c = held-first _ _ _ _ c.new.ensures.items

pub returns-clause-valid : goal.returns-clause-valid
returns-clause-valid c = (invariant_of-result c).valid
