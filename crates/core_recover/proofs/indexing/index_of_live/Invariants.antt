use Rattle.std.proofs.Common.{◌≡◌, take}
use Rattle.std.specs.FinMap.{empty}
use Rattle.journal_form.specs.Versions.{files_of}
use Rattle.tablet_state.specs.Seen.{segments_of}
use Rattle.tablet_state.specs.State.{SameSegments, reader_faults}
use Rattle.core_recover.specs.Indexing.{Indexes}
use Rattle.core_recover.proofs.indexing.index_of_live.Given as goal

abbrev pub invariant-loop-files : goal.invariant-loop-files
invariant-loop-files g l = record {
  index : Indexes l.schema (files_of (take l.files-index l.files-items)) (segments_of g.R.SealedReader.view l.fn.segments.items) empty l.index.map;
  same : SameSegments (segments_of g.R.SealedReader.view l.fn.segments.items) (segments_of g.R.SealedReader.view l.segments.items);
  unfailed : reader_faults (segments_of g.R.SealedReader.view l.fn.segments.items) ≡ 0 → reader_faults (segments_of g.R.SealedReader.view l.segments.items) ≡ 0;
}
