use Rattle.std.proofs.Common.{◌≡◌, ◌≤◌, ◌∙◌, ◌-◌, List, ap, subst, arith, length, map, slice_get, Some}
use Rattle.std.specs.List.{AllByRecursion}
use Rattle.snapshot_scan.specs.Parts.{IsPart, PartView, seen}
use Rattle.snapshot_scan.specs.Snapshots.{SnapshotView}
use Rattle.snapshot_scan.proofs.CountFacts.{count_ends, count_step, dead_fit, shown_at, shown_long}
use Rattle.snapshot_scan.proofs.snapshots.Snapshot.count.Goals as goal

pub overflow_sub-rows : goal.overflow_sub-rows
overflow_sub-rows g c =
    let fit = dead_fit c.self.inside.schema (map (seen g.R.SealedReader.view) c.self.inside.parts.items) c.loop-part.part-index (seen g.R.SealedReader.view c.part-item.result) c.self.invariant.each (shown_at g.R.SealedReader.view c.self.inside.parts.items c.deref-part-items.result.now c.deref-part-items.ensures.value c.loop-part.part-index c.part-item.result c.loop-part-test.true c.part-item.is) c.count.ensures.dead in
    let le = fit.0 in
    omega (arith, c.count.ensures.count, c.rows.ensures)

pub loop-part-preserved : goal.loop-part-preserved
loop-part-preserved g c =
    let inv = c.loop-part.invariant in
    let more = c.from-count.ensures ∙ ap (λ n. n - c.count.result) c.rows.ensures ∙ ap (λ n. c.part-item.result.0.footer.rows - n) c.count.ensures.count in
    let step = count_step c.args.self.now.schema c.args.self.now.parts c.loop-part.part-index c.loop-part.count c.from-count.result (seen g.R.SealedReader.view c.part-item.result)
    (subst (λ (v : SnapshotView). AllByRecursion (IsPart v.schema) v.parts) c.self.view_is c.self.invariant.each)
    (subst (λ (ps : List PartView). slice_get ps c.loop-part.part-index ≡ Some (seen g.R.SealedReader.view c.part-item.result)) (ap (λ (v : SnapshotView). v.parts) c.self.view_is) (shown_at g.R.SealedReader.view c.self.inside.parts.items c.deref-part-items.result.now c.deref-part-items.ensures.value c.loop-part.part-index c.part-item.result c.loop-part-test.true c.part-item.is))
    c.count.ensures.dead more inv.count inv.few inv.rise in
    record { count = step.0; few = step.1; rise = step.2 }

pub returns-clause-size : goal.returns-clause-size
returns-clause-size g c = λ m stands.
    count_ends c.args.self.now m c.loop-part.part-index c.loop-part.count
    (subst (λ (v : SnapshotView). length v.parts ≤ c.loop-part.part-index) c.self.view_is (shown_long g.R.SealedReader.view c.self.inside.parts.items c.deref-part-items.result.now c.deref-part-items.ensures.value c.loop-part.part-index c.loop-part-test.false))
    c.loop-part.invariant.count c.loop-part.invariant.rise
    (subst (λ (v : SnapshotView). AllByRecursion (IsPart v.schema) v.parts) c.self.view_is c.self.invariant.each) stands
