use Rattle.std.proofs.Common.{◌∙◌, ap, arith, false}
use Rattle.dev_memory.specs.Kept.{KeptView, grown}
use Rattle.dev_memory.specs.Disk.{Blanked}
use Rattle.dev_memory.proofs.Growing.{blank_deeds, keep_fail_blank, valid_after, held_after}
use Rattle.dev_memory.proofs.kept.Kept.fail_blank.Goals as goal

pub invariant_of-self : goal.invariant_of-self
invariant_of-self c = keep_fail_blank _ _ _ _ _ _ _ _ _ _ c.self.invariant c.args.area _ _ _ _ c.push_reserved.ensures.items (omega (arith, c.self.invariant.for_calls, c.push_reserved.ensures.len, c.push_reserved.ensures.capacity)) (omega (arith, c.self.invariant.for_files))

pub returns-clause-valid : goal.returns-clause-valid
returns-clause-valid c = valid_after _ _ _ _ _ _ _ _ _ _ c.self.invariant (Blanked c.args.area false) _ _ (blank_deeds _ _ _ _ _ _ _ _ _ _ c.self.invariant c.args.area false _ c.push_reserved.ensures.items)

pub returns-clause-blanked : goal.returns-clause-blanked
returns-clause-blanked c = held_after _ _ _ _ _ _ _ _ _ _ c.self.invariant (Blanked c.args.area false) _ _ (blank_deeds _ _ _ _ _ _ _ _ _ _ c.self.invariant c.args.area false _ c.push_reserved.ensures.items) ∙ ap (λ (k : KeptView). grown k.held (Blanked c.args.area false)) c.self.view_is
