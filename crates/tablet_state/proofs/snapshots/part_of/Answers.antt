use Rattle.std.proofs.Common.{◌≡◌, ◌∙◌, List, Some, arith, refl, sym, subst, slice_get}
use Rattle.std.proofs.lemmas.List.{length-map}
use Rattle.segment_read.specs.declared.segments.Segment.{Segment}
use Rattle.snapshot_scan.specs.Parts.{seen}
use Rattle.snapshot_scan.proofs.ListFacts.{map_set}
use Rattle.tablet_state.specs.Seen.{segment_seen, segments_of}
use Rattle.tablet_state.specs.Snapshots.{SameButReads}
use Rattle.tablet_state.specs.State.{SegmentView, segment_of}
use Rattle.tablet_state.proofs.Counting.{mapped_at}
use Rattle.tablet_state.proofs.Lending.{copied_part, lent_set, place_within, unread_same}
use Rattle.tablet_state.proofs.snapshots.part_of.Goals as goal

pub returns-in_err-segment-clause-same : goal.returns-in_err-segment-clause-same
returns-in_err-segment-clause-same g c =
    let view = g.R.SealedReader.view in
    let items = c.args.segments.now.items in
    let segs : List SegmentView = segments_of view items in
    let place = c.place_of-place.result in
    let x = c.index_mut.result.now in
    let is : slice_get segs place ≡ segment_of segs c.args.file.now.file = subst (λ n. slice_get segs place ≡ segment_of segs n) c.number.ensures
    (subst (λ (xs : List (Segment g.row.R.Denot)). slice_get (segments_of view xs) place ≡ segment_of (segments_of view xs) c.number.result) c.as_slice.ensures.value c.place_of-place.ensures) in
    let within = place_within segs c.args.file.now.file place is c.requires.there in
    let long = length-map items (segment_seen view) in
    let at : slice_get segs place ≡ Some (segment_seen view x) = mapped_at (segment_seen view) items items place x refl (omega arith) c.index_mut.ensures.value in
    subst (SameButReads segs) (sym (map_set (segment_seen view) items place c.copy-2.new.self))
    (lent_set segs place (segment_seen view x) (segment_seen view c.copy-2.new.self) at
    (unread_same (segment_seen view x) (segment_seen view c.copy-2.new.self) c.copy-2.ensures.kept_number c.copy-2.ensures.kept_footer c.copy-2.ensures.same c.copy-2.ensures.faults))

pub returns-clause-part : goal.returns-clause-part
returns-clause-part g c =
    let view = g.R.SealedReader.view in
    let items = c.args.segments.now.items in
    let segs : List SegmentView = segments_of view items in
    let place = c.place_of-place.result in
    let x = c.index_mut.result.now in
    let is : slice_get segs place ≡ segment_of segs c.args.file.now.file = subst (λ n. slice_get segs place ≡ segment_of segs n) c.number.ensures
    (subst (λ (xs : List (Segment g.row.R.Denot)). slice_get (segments_of view xs) place ≡ segment_of (segments_of view xs) c.number.result) c.as_slice.ensures.value c.place_of-place.ensures) in
    let within = place_within segs c.args.file.now.file place is c.requires.there in
    let long = length-map items (segment_seen view) in
    let at : slice_get segs place ≡ Some (segment_seen view x) = mapped_at (segment_seen view) items items place x refl (omega arith) c.index_mut.ensures.value in
    let ok = c.in_ok-segment.ensures in
    copied_part segs c.args.file.now place (segment_seen view x) (seen view (c.in_ok-segment.segment, c.in_ok-dead.dead)) at is ok.number ok.footer ok.file ok.new (c.in_ok-dead.ensures ∙ c.dead.ensures)

pub returns-clause-same : goal.returns-clause-same
returns-clause-same g c =
    let view = g.R.SealedReader.view in
    let items = c.args.segments.now.items in
    let segs : List SegmentView = segments_of view items in
    let place = c.place_of-place.result in
    let x = c.index_mut.result.now in
    let is : slice_get segs place ≡ segment_of segs c.args.file.now.file = subst (λ n. slice_get segs place ≡ segment_of segs n) c.number.ensures
    (subst (λ (xs : List (Segment g.row.R.Denot)). slice_get (segments_of view xs) place ≡ segment_of (segments_of view xs) c.number.result) c.as_slice.ensures.value c.place_of-place.ensures) in
    let within = place_within segs c.args.file.now.file place is c.requires.there in
    let long = length-map items (segment_seen view) in
    let at : slice_get segs place ≡ Some (segment_seen view x) = mapped_at (segment_seen view) items items place x refl (omega arith) c.index_mut.ensures.value in
    subst (SameButReads segs) (sym (map_set (segment_seen view) items place c.copy-2.new.self))
    (lent_set segs place (segment_seen view x) (segment_seen view c.copy-2.new.self) at
    (unread_same (segment_seen view x) (segment_seen view c.copy-2.new.self) c.copy-2.ensures.kept_number c.copy-2.ensures.kept_footer c.copy-2.ensures.same c.copy-2.ensures.faults))
