use Rattle.std.proofs.Common.{◌≡◌, take}
use Rattle.tablet_state.specs.Seen.{segments_of}
use Rattle.tablet_state.specs.State.{SameSegments, reader_faults}
use Rattle.core_recover.specs.Indexing.{Indexes}
use Rattle.core_recover.proofs.indexing.index_files.Given as goal

abbrev pub invariant-loop-file : goal.invariant-loop-file
invariant-loop-file g l = record {
  index : Indexes l.schema (take l.file-index l.files) (segments_of g.R.SealedReader.view l.fn.segments.items) l.fn.index.map l.index.map;
  same : SameSegments (segments_of g.R.SealedReader.view l.fn.segments.items) (segments_of g.R.SealedReader.view l.segments.items);
  unfailed : reader_faults (segments_of g.R.SealedReader.view l.fn.segments.items) ≡ 0 → reader_faults (segments_of g.R.SealedReader.view l.segments.items) ≡ 0;
}
