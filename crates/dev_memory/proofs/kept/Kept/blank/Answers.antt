use Rattle.std.proofs.Common.{◌∙◌, ap, arith, true, rules}
use Rattle.dev_memory.specs.Kept.{KeptView, grown}
use Rattle.dev_memory.specs.Disk.{Blanked}
use Rattle.dev_memory.proofs.Growing.{area_count, blank_deeds, keep_blank, valid_after, held_after}
use Rattle.dev_memory.proofs.Keeping.{room-at}
use Rattle.dev_memory.proofs.kept.Kept.blank.Goals as goal

pub index_mut-blanked-requires : goal.index_mut-blanked-requires
index_mut-blanked-requires c = let size = area_count _ _ _ _ _ _ _ _ _ _ c.self.invariant in search rules

pub invariant_of-self : goal.invariant_of-self
invariant_of-self c =
    let size = area_count _ _ _ _ _ _ _ _ _ _ c.self.invariant in
    let old = room-at c.self.inside.spare_bytes c.self.inside.areas.items c.args.area c.index_mut-blanked.result.now c.self.invariant.rooms (omega (arith, size)) c.index_mut-blanked.ensures.value in
    keep_blank _ _ _ _ _ _ _ _ _ _ c.self.invariant c.args.area c.blank.new.self _ _ _ _ c.push_reserved.ensures.items c.blank.ensures.blank (omega (arith, old, c.blank.ensures.kept)) (omega (arith, c.self.invariant.for_calls, c.push_reserved.ensures.len, c.push_reserved.ensures.capacity)) (omega (arith, c.self.invariant.for_files))

pub returns-clause-valid : goal.returns-clause-valid
returns-clause-valid c = valid_after _ _ _ _ _ _ _ _ _ _ c.self.invariant (Blanked c.args.area true) _ _ (blank_deeds _ _ _ _ _ _ _ _ _ _ c.self.invariant c.args.area true _ c.push_reserved.ensures.items)

pub returns-clause-blanked : goal.returns-clause-blanked
returns-clause-blanked c = held_after _ _ _ _ _ _ _ _ _ _ c.self.invariant (Blanked c.args.area true) _ _ (blank_deeds _ _ _ _ _ _ _ _ _ _ c.self.invariant c.args.area true _ c.push_reserved.ensures.items) ∙ ap (λ (k : KeptView). grown k.held (Blanked c.args.area true)) c.self.view_is
