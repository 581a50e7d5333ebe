use Rattle.std.proofs.Common.{◌∙◌, ℕ, List, Vec, Global, inl, inr, map, refl, ap, sym}
use Rattle.segment_read.specs.declared.segments.Segment.{Segment}
use Rattle.tablet_state.specs.Floors.{is_listed}
use Rattle.tablet_state.proofs.Counting.{mapped_at}
use Rattle.tablet_state.proofs.KeepLoops.{kept_number}
use Rattle.tablet_state.proofs.keeping.listed_of.Goals.{then-is_listed+in_ok-push, else-is_listed}
use Rattle.tablet_state.proofs.keeping.listed_of.Goals as goal

pub loop-segment-preserved : goal.loop-segment-preserved
loop-segment-preserved g c =
    let number : Segment g.row.R.Denot → ℕ = λ x. x.number in
    let ns : List ℕ = map number c.args.segments.now in
    let i = c.loop-segment.segment-index in
    let n : ℕ = c.segment-item.result.number in
    let at = mapped_at number c.args.segments.now c.args.segments.now i c.segment-item.result refl c.loop-segment-test.true c.segment-item.is in
    kept_number (is_listed c.args.numbers.now) ns i n c.loop-segment.keep.items c.if-is_listed.keep.items at c.loop-segment.invariant
    (elim c.if-is_listed.branch [
      | then-is_listed+in_ok-push w ↦ inl (sym c.is_listed.ensures ∙ w.if-is_listed.true, ap (λ (k : Vec ℕ Global). k.items) w.keep-is ∙ w.in_ok-push.ensures.items)
      | else-is_listed w ↦ inr (sym c.is_listed.ensures ∙ w.if-is_listed.false, ap (λ (k : Vec ℕ Global). k.items) w.keep-is)
    ])
