use Rattle.std.proofs.Common.{◌≡◌, ◌+◌, All, IsTrue, drop, length}
use Rattle.pk_values.specs.Schemas.{fits_row}
use Rattle.segment_form.specs.Segments.{KeysRise}
use Rattle.segment_read.specs.Reads.{OfFile}
use Rattle.segment_read.specs.Rows.{AreRowsBefore}
use Rattle.segment_read.proofs.Counted.{rows_told}
use Rattle.segment_read.proofs.Scanning.{ReadSoFar}
use Rattle.segment_read.proofs.scans.rows_of.Given as goal

abbrev pub invariant-loop-b : goal.invariant-loop-b
invariant-loop-b g l = record {
  fit : All (λ row. IsTrue (fits_row l.schema row)) l.rows.items;
  rise : KeysRise l.schema l.rows.items;
  number : l.segment.number ≡ l.fn.segment.number;
  kept : l.segment.footer ≡ l.fn.segment.footer;
  counted : ReadSoFar l.b (g.R.SealedReader.view l.fn.segment.reader) (g.R.SealedReader.view l.segment.reader);
  count : length l.rows.items + rows_told (drop l.b l.fn.segment.footer.blocks) ≡ l.fn.segment.footer.rows;
  read : OfFile (g.R.SealedReader.view l.fn.segment.reader) (λ file. AreRowsBefore l.schema l.fn.segment.footer file l.b l.rows.items);
}
