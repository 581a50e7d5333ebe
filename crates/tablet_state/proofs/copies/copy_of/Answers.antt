use Rattle.std.proofs.Common.{◌≡◌, ◌∙◌, ◌≤◌, ◌+◌, List, Some, arith, refl, sym, subst, slice_get}
use Rattle.std.proofs.lemmas.List.{length-map}
use Rattle.segment_read.specs.declared.segments.Segment.{Segment}
use Rattle.snapshot_scan.proofs.ListFacts.{map_set}
use Rattle.tablet_state.specs.Moving.{read_once, total_reads}
use Rattle.tablet_state.specs.Seen.{segment_seen, segments_of}
use Rattle.tablet_state.specs.Snapshots.{SameButReads}
use Rattle.tablet_state.specs.State.{SegmentView, segment_of}
use Rattle.tablet_state.proofs.Counting.{mapped_at}
use Rattle.tablet_state.proofs.FloorReplies.{on_err}
use Rattle.tablet_state.proofs.Lending.{found_there, lent_set, place_within, unread_same}
use Rattle.tablet_state.proofs.MovingFacts.{copied, read_set, seen_read, seen_same, set_same, total_set}
use Rattle.tablet_state.proofs.copies.copy_of.Goals as goal

pub returns-in_err-copy-clause-same : goal.returns-in_err-copy-clause-same
returns-in_err-copy-clause-same g c =
    let view = g.R.SealedReader.view in
    let items = c.args.segments.now.items in
    let segs : List SegmentView = segments_of view items in
    let place = c.place_of-place.result in
    let x = c.index_mut.result.now in
    let is : slice_get segs place ≡ segment_of segs c.args.file =
    subst (λ (xs : List (Segment g.row.R.Denot)). slice_get (segments_of view xs) place ≡ segment_of (segments_of view xs) c.args.file) c.as_slice.ensures.value c.place_of-place.ensures in
    let within = place_within segs c.args.file place is c.requires.there in
    let long = length-map items (segment_seen view) in
    let at : slice_get segs place ≡ Some (segment_seen view x) = mapped_at (segment_seen view) items items place x refl (omega arith) c.index_mut.ensures.value in
    subst (SameButReads segs) (sym (map_set (segment_seen view) items place c.copy.new.self))
    (lent_set segs place (segment_seen view x) (segment_seen view c.copy.new.self) at
    (unread_same (segment_seen view x) (segment_seen view c.copy.new.self) c.copy.ensures.kept_number c.copy.ensures.kept_footer c.copy.ensures.same c.copy.ensures.faults))

pub returns-in_err-copy-clause-uncounted : goal.returns-in_err-copy-clause-uncounted
returns-in_err-copy-clause-uncounted g c =
    let view = g.R.SealedReader.view in
    let items = c.args.segments.now.items in
    let segs : List SegmentView = segments_of view items in
    let place = c.place_of-place.result in
    let x = c.index_mut.result.now in
    let is : slice_get segs place ≡ segment_of segs c.args.file =
    subst (λ (xs : List (Segment g.row.R.Denot)). slice_get (segments_of view xs) place ≡ segment_of (segments_of view xs) c.args.file) c.as_slice.ensures.value c.place_of-place.ensures in
    let within = place_within segs c.args.file place is c.requires.there in
    let long = length-map items (segment_seen view) in
    let at : slice_get segs place ≡ Some (segment_seen view x) = mapped_at (segment_seen view) items items place x refl (omega arith) c.index_mut.ensures.value in
    on_err c.from_residual.result
    (subst (λ (gs : List SegmentView). gs ≡ segs) (sym (map_set (segment_seen view) items place c.copy.new.self))
    (set_same segs place (segment_seen view x) (segment_seen view c.copy.new.self) at
    (seen_same (segment_seen view x) (segment_seen view c.copy.new.self) c.copy.ensures.kept_number c.copy.ensures.kept_footer c.copy.ensures.same c.copy.ensures.faults c.in_err-copy.ensures.uncounted)))

pub returns-in_err-copy-clause-reads : goal.returns-in_err-copy-clause-reads
returns-in_err-copy-clause-reads g c =
    let view = g.R.SealedReader.view in
    let items = c.args.segments.now.items in
    let segs : List SegmentView = segments_of view items in
    let place = c.place_of-place.result in
    let x = c.index_mut.result.now in
    let is : slice_get segs place ≡ segment_of segs c.args.file =
    subst (λ (xs : List (Segment g.row.R.Denot)). slice_get (segments_of view xs) place ≡ segment_of (segments_of view xs) c.args.file) c.as_slice.ensures.value c.place_of-place.ensures in
    let within = place_within segs c.args.file place is c.requires.there in
    let long = length-map items (segment_seen view) in
    let at : slice_get segs place ≡ Some (segment_seen view x) = mapped_at (segment_seen view) items items place x refl (omega arith) c.index_mut.ensures.value in
    let counted : (view c.copy.new.self.reader).reads ≡ (view x.reader).reads = c.in_err-copy.ensures.uncounted in
    subst (λ (gs : List SegmentView). total_reads gs ≤ total_reads segs + 1) (sym (map_set (segment_seen view) items place c.copy.new.self))
    (total_set segs place (segment_seen view x) (segment_seen view c.copy.new.self) at (omega (arith, counted)))

pub returns-clause-copy : goal.returns-clause-copy
returns-clause-copy g c =
    let view = g.R.SealedReader.view in
    let items = c.args.segments.now.items in
    let segs : List SegmentView = segments_of view items in
    let place = c.place_of-place.result in
    let x = c.index_mut.result.now in
    let is : slice_get segs place ≡ segment_of segs c.args.file =
    subst (λ (xs : List (Segment g.row.R.Denot)). slice_get (segments_of view xs) place ≡ segment_of (segments_of view xs) c.args.file) c.as_slice.ensures.value c.place_of-place.ensures in
    let within = place_within segs c.args.file place is c.requires.there in
    let long = length-map items (segment_seen view) in
    let at : slice_get segs place ≡ Some (segment_seen view x) = mapped_at (segment_seen view) items items place x refl (omega arith) c.index_mut.ensures.value in
    let ok = c.in_ok-copy.ensures in
    copied segs c.args.file place (segment_seen view x) (segment_seen view c.in_ok-copy.copy) at is ok.number ok.footer ok.file ok.new

pub returns-clause-same : goal.returns-clause-same
returns-clause-same g c =
    let view = g.R.SealedReader.view in
    let items = c.args.segments.now.items in
    let segs : List SegmentView = segments_of view items in
    let place = c.place_of-place.result in
    let x = c.index_mut.result.now in
    let is : slice_get segs place ≡ segment_of segs c.args.file =
    subst (λ (xs : List (Segment g.row.R.Denot)). slice_get (segments_of view xs) place ≡ segment_of (segments_of view xs) c.args.file) c.as_slice.ensures.value c.place_of-place.ensures in
    let within = place_within segs c.args.file place is c.requires.there in
    let long = length-map items (segment_seen view) in
    let at : slice_get segs place ≡ Some (segment_seen view x) = mapped_at (segment_seen view) items items place x refl (omega arith) c.index_mut.ensures.value in
    subst (SameButReads segs) (sym (map_set (segment_seen view) items place c.copy.new.self))
    (lent_set segs place (segment_seen view x) (segment_seen view c.copy.new.self) at
    (unread_same (segment_seen view x) (segment_seen view c.copy.new.self) c.copy.ensures.kept_number c.copy.ensures.kept_footer c.copy.ensures.same c.copy.ensures.faults))

pub returns-clause-reads : goal.returns-clause-reads
returns-clause-reads g c =
    let view = g.R.SealedReader.view in
    let items = c.args.segments.now.items in
    let segs : List SegmentView = segments_of view items in
    let place = c.place_of-place.result in
    let x = c.index_mut.result.now in
    let is : slice_get segs place ≡ segment_of segs c.args.file =
    subst (λ (xs : List (Segment g.row.R.Denot)). slice_get (segments_of view xs) place ≡ segment_of (segments_of view xs) c.args.file) c.as_slice.ensures.value c.place_of-place.ensures in
    let within = place_within segs c.args.file place is c.requires.there in
    let long = length-map items (segment_seen view) in
    let at : slice_get segs place ≡ Some (segment_seen view x) = mapped_at (segment_seen view) items items place x refl (omega arith) c.index_mut.ensures.value in
    let counted = c.in_ok-copy.ensures.counted in
    subst (λ (gs : List SegmentView). total_reads gs ≤ total_reads segs + 1) (sym (map_set (segment_seen view) items place c.copy.new.self))
    (total_set segs place (segment_seen view x) (segment_seen view c.copy.new.self) at (omega (arith, counted)))

pub returns-clause-counted : goal.returns-clause-counted
returns-clause-counted g c =
    let view = g.R.SealedReader.view in
    let items = c.args.segments.now.items in
    let segs : List SegmentView = segments_of view items in
    let place = c.place_of-place.result in
    let x = c.index_mut.result.now in
    let is : slice_get segs place ≡ segment_of segs c.args.file =
    subst (λ (xs : List (Segment g.row.R.Denot)). slice_get (segments_of view xs) place ≡ segment_of (segments_of view xs) c.args.file) c.as_slice.ensures.value c.place_of-place.ensures in
    let within = place_within segs c.args.file place is c.requires.there in
    let long = length-map items (segment_seen view) in
    let at : slice_get segs place ≡ Some (segment_seen view x) = mapped_at (segment_seen view) items items place x refl (omega arith) c.index_mut.ensures.value in
    let number = (found_there segs c.args.file (segment_seen view x) (sym is ∙ at)).2 in
    subst (λ (gs : List SegmentView). gs ≡ read_once c.args.file segs) (sym (map_set (segment_seen view) items place c.copy.new.self))
    (read_set segs place c.args.file (segment_seen view x) (segment_seen view c.copy.new.self) c.requires.rise at number
    (seen_read (segment_seen view x) (segment_seen view c.copy.new.self) c.copy.ensures.kept_number c.copy.ensures.kept_footer c.copy.ensures.same c.copy.ensures.faults c.in_ok-copy.ensures.counted))
