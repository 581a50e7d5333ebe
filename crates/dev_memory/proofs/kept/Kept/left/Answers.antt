use Rattle.std.proofs.Common.{◌≡◌, length, sym, ◌∙◌, ap, subst, arith}
use Rattle.dev_memory.specs.Kept.{KeptView}
use Rattle.dev_memory.specs.Disk.{AreaDisk, deeds, disk_now, area_disk, at_rest}
use Rattle.dev_memory.specs.Crash.{one_replay, Left}
use Rattle.dev_memory.proofs.Crashes.{area_from}
use Rattle.dev_memory.proofs.Beginning.{short-at}
use Rattle.dev_memory.proofs.Leaving.{left_read}
use Rattle.dev_memory.proofs.Views.{if_ok}
use Rattle.dev_memory.proofs.kept.Kept.left.Goals as goal

pub returns-then-pick-eq0-clause-left : goal.returns-then-pick-eq0-clause-left
returns-then-pick-eq0-clause-left c = if_ok c.from_slice.result _ _ c.from_slice.ensures.bytes (λ left is. left_read c.args.self.now.held c.args.pick c.args.area left c.if-pick-eq0.true (is ∙ c.area.ensures.bytes))

pub returns-then-pick-eq0-clause-short : goal.returns-then-pick-eq0-clause-short
returns-then-pick-eq0-clause-short c = if_ok c.from_slice.result _ _ c.from_slice.ensures.bytes (λ left is. omega (arith, ap length is, c.area.ensures.short))

pub area_left-requires-clause-short : goal.area_left-requires-clause-short
area_left-requires-clause-short c = omega (arith, short-at c.self.inside.start.items c.args.area c.index.result.now c.self.invariant.valid.short (omega (arith, c.self.invariant.valid.three, c.requires)) c.index.ensures, ap length c.as_slice-start.ensures)

pub returns-clause-left : goal.returns-clause-left
returns-clause-left c =
    let a = c.args.area in
    let start = c.self.inside.start.items in
    let pieces = c.self.inside.pieces.items in
    let calls = c.self.inside.calls.items in
    let disk : one_replay a (deeds c.deref-2.result.now c.deref.result.now) (at_rest c.as_slice-start.result.now) ≡ area_disk (disk_now c.args.self.now.held) a =
    (λ i. one_replay a (deeds (c.deref-2.ensures.value i) (c.deref.ensures.value i)) (at_rest (c.as_slice-start.ensures i)))
    ∙ sym (area_from a start (deeds pieces calls) c.index.result.now (omega (arith, c.self.invariant.valid.three, c.requires)) c.index.ensures)
    ∙ ap (λ (k : KeptView). area_disk (disk_now k.held) a) c.self.view_is in
    if_ok c.area_left.result _ _ c.area_left.ensures.left (λ left is. subst (λ (d : AreaDisk). Left c.args.pick d left) disk is)
