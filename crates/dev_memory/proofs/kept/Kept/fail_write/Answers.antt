use Rattle.std.proofs.Common.{length, refl, ◌∙◌, ap, arith, false}
use Rattle.dev_memory.specs.Kept.{KeptView, grown}
use Rattle.dev_memory.specs.Disk.{Wrote}
use Rattle.dev_memory.proofs.Growing.{keep_fail_write, write_deeds, valid_after, held_after}
use Rattle.dev_memory.proofs.kept.Kept.fail_write.Goals as goal

pub invariant_of-self : goal.invariant_of-self
invariant_of-self c =
    keep_fail_write _ _ _ _ _ _ _ _ _ _ c.self.invariant c.args.area c.args.at (length c.args.piece.now) c.args.piece.now _ _ _ _ _ _ _ c.push_reserved.ensures.items c.append.ensures.items refl
    (omega arith)
    (omega (arith, c.self.invariant.for_calls, c.push_reserved.ensures.len, c.push_reserved.ensures.capacity))
    (omega (arith, c.self.invariant.for_files))
    (omega (arith, c.self.invariant.for_pieces, c.append.ensures.len, c.append.ensures.capacity))

pub returns-clause-valid : goal.returns-clause-valid
returns-clause-valid c = valid_after _ _ _ _ _ _ _ _ _ _ c.self.invariant (Wrote c.args.area c.args.at c.args.piece.now false) _ _ (write_deeds _ _ _ _ _ _ _ _ _ _ c.self.invariant c.args.area c.args.at (length c.args.piece.now) c.args.piece.now false _ _ c.push_reserved.ensures.items c.append.ensures.items refl)

pub returns-clause-written : goal.returns-clause-written
returns-clause-written c =
    held_after _ _ _ _ _ _ _ _ _ _ c.self.invariant (Wrote c.args.area c.args.at c.args.piece.now false) _ _ (write_deeds _ _ _ _ _ _ _ _ _ _ c.self.invariant c.args.area c.args.at (length c.args.piece.now) c.args.piece.now false _ _ c.push_reserved.ensures.items c.append.ensures.items refl)
    ∙ ap (λ (k : KeptView). grown k.held (Wrote c.args.area c.args.at c.args.piece.now false)) c.self.view_is
