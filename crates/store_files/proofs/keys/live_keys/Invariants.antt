use Rattle.std.proofs.Common.{◌≡◌, ℕ, ◌+◌, ◌*◌, ◌<◌, ◌≤◌, List, take}
use Rattle.pk_values.specs.declared.cells.Value.{Value}
use Rattle.dev_traits.specs.Reader.{SameFile}
use Rattle.segment_read.specs.Reads.{OfFile}
use Rattle.segment_read.specs.Rows.{IsSegmentOf}
use Rattle.store_files.specs.Keys.{HasLive, IsWhole, live_codes}
use Rattle.store_files.proofs.keys.live_keys.Given as goal

abbrev pub invariant-loop-b : goal.invariant-loop-b
invariant-loop-b g l = record {
  number : l.segment.number ≡ l.fn.segment.number;
  kept : l.segment.footer ≡ l.fn.segment.footer;
  same : SameFile (g.R.SealedReader.view l.fn.segment.reader) (g.R.SealedReader.view l.segment.reader);
  reads : (g.R.SealedReader.view l.segment.reader).reads ≤ (g.R.SealedReader.view l.fn.segment.reader).reads + l.b;
  unfailed : (g.R.SealedReader.view l.segment.reader).faults ≡ (g.R.SealedReader.view l.fn.segment.reader).faults;
  whole : OfFile (g.R.SealedReader.view l.fn.segment.reader) (λ file. (i : ℕ) → i < l.b → HasLive l.dead l.fn.segment.footer.rows i → IsWhole l.schema l.fn.segment.footer file i);
  read : OfFile (g.R.SealedReader.view l.fn.segment.reader) (λ file. (rows : List (List Value)) → IsSegmentOf l.schema l.fn.segment.footer file rows
      → l.keys.items ≡ live_codes l.schema l.fn.segment.number l.dead 0 (take (l.b * 1024) rows));
}
