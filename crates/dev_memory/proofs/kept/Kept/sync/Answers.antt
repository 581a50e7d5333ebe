use Rattle.std.proofs.Common.{◌∙◌, ap, arith}
use Rattle.dev_memory.specs.Kept.{KeptView, grown}
use Rattle.dev_memory.specs.Disk.{Synced}
use Rattle.dev_memory.proofs.Growing.{sync_deeds, keep_sync, valid_after, held_after}
use Rattle.dev_memory.proofs.kept.Kept.sync.Goals as goal

pub invariant_of-self : goal.invariant_of-self
invariant_of-self c = keep_sync _ _ _ _ _ _ _ _ _ _ c.self.invariant c.args.area _ _ _ _ c.push_reserved.ensures.items (omega (arith, c.self.invariant.for_calls, c.push_reserved.ensures.len, c.push_reserved.ensures.capacity)) (omega (arith, c.self.invariant.for_files))

pub returns-clause-valid : goal.returns-clause-valid
returns-clause-valid c = valid_after _ _ _ _ _ _ _ _ _ _ c.self.invariant (Synced c.args.area) _ _ (sync_deeds _ _ _ _ _ _ _ _ _ _ c.self.invariant c.args.area _ c.push_reserved.ensures.items)

pub returns-clause-synced : goal.returns-clause-synced
returns-clause-synced c = held_after _ _ _ _ _ _ _ _ _ _ c.self.invariant (Synced c.args.area) _ _ (sync_deeds _ _ _ _ _ _ _ _ _ _ c.self.invariant c.args.area _ c.push_reserved.ensures.items) ∙ ap (λ (k : KeptView). grown k.held (Synced c.args.area)) c.self.view_is
