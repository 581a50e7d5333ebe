-- How contracts see segments, new files and changes.
use Rattle.std.specs.Prelude.{List, map}
use Rattle.dev_traits.specs.Reader.{ReaderView}
use Rattle.segment_read.specs.declared.segments.Segment.{Segment}
use Rattle.tablet_state.specs.State.{SegmentView}

abbrev pub segment_seen : {R : Type 0} → (R → ReaderView) → Segment R → SegmentView
segment_seen view g = record { number = g.number; reader = view g.reader; footer = g.footer }

abbrev pub segments_of : {R : Type 0} → (R → ReaderView) → List (Segment R) → List SegmentView
segments_of view segments = map (segment_seen view) segments
