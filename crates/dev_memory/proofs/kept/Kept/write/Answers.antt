use Rattle.std.proofs.Common.{ℕ, List, length, refl, ◌∙◌, ap, arith, true}
use Rattle.dev_traits.specs.Image.{area_of, overwritten}
use Rattle.dev_memory.specs.Kept.{KeptView, grown}
use Rattle.dev_memory.specs.Disk.{Wrote, disk_now, read_of}
use Rattle.dev_memory.proofs.Growing.{area_count, area_bytes, keep_write, write_deeds, valid_after, held_after}
use Rattle.dev_memory.proofs.Keeping.{room-at}
use Rattle.dev_memory.proofs.kept.Kept.write.Goals as goal

pub invariant_of-self : goal.invariant_of-self
invariant_of-self c =
    let size = area_count _ _ _ _ _ _ _ _ _ _ c.self.invariant in
    let slot = c.index_mut-written in
    let room = room-at c.self.inside.spare_bytes c.self.inside.areas.items c.args.area slot.result.now c.self.invariant.rooms (omega (arith, size, c.requires.there)) slot.ensures.value in
    let bytes = area_bytes _ _ _ _ _ _ _ _ _ _ c.self.invariant c.args.area slot.result.now slot.ensures.value c.requires.there in
    let seen = ap (λ (k : KeptView). length (area_of (read_of (disk_now k.held)) c.args.area)) c.self.view_is in
    keep_write _ _ _ _ _ _ _ _ _ _ c.self.invariant c.args.area c.args.at (length c.args.piece.now) c.args.piece.now c.write.new.self _ _ _ _ _ _ _ c.push_reserved.ensures.items c.append.ensures.items refl
    (omega (arith, seen, c.requires.some)) (omega (arith, seen, c.requires.inside)) c.requires.short
    (c.write.ensures.written ∙ ap (λ (l : List ℕ). overwritten l c.args.at c.args.piece.now) bytes) (omega (arith, room, c.write.ensures.spends))
    (omega arith)
    (omega (arith, c.self.invariant.for_calls, c.push_reserved.ensures.len, c.push_reserved.ensures.capacity))
    (omega (arith, c.self.invariant.for_files))
    (omega (arith, c.self.invariant.for_pieces, c.append.ensures.len, c.append.ensures.capacity))

pub returns-clause-valid : goal.returns-clause-valid
returns-clause-valid c = valid_after _ _ _ _ _ _ _ _ _ _ c.self.invariant (Wrote c.args.area c.args.at c.args.piece.now true) _ _ (write_deeds _ _ _ _ _ _ _ _ _ _ c.self.invariant c.args.area c.args.at (length c.args.piece.now) c.args.piece.now true _ _ c.push_reserved.ensures.items c.append.ensures.items refl)

pub returns-clause-written : goal.returns-clause-written
returns-clause-written c =
    held_after _ _ _ _ _ _ _ _ _ _ c.self.invariant (Wrote c.args.area c.args.at c.args.piece.now true) _ _ (write_deeds _ _ _ _ _ _ _ _ _ _ c.self.invariant c.args.area c.args.at (length c.args.piece.now) c.args.piece.now true _ _ c.push_reserved.ensures.items c.append.ensures.items refl)
    ∙ ap (λ (k : KeptView). grown k.held (Wrote c.args.area c.args.at c.args.piece.now true)) c.self.view_is
