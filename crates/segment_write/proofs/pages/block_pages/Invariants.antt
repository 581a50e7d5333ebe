use Rattle.std.proofs.Common.{◌≡◌, ◌++◌, drop}
use Rattle.segment_form.specs.Segments.{block_body, marks_of, pages}
use Rattle.segment_write.proofs.pages.block_pages.Given as goal

abbrev pub invariant-loop-i : goal.invariant-loop-i
invariant-loop-i l = record {
  bytes : l.pages.bytes.items ++ pages l.i (drop l.i l.schema.columns) l.rows ≡ block_body l.schema l.rows;
  marks : l.pages.marks ++ marks_of l.i (drop l.i l.schema.columns) l.rows ≡ marks_of 0 l.schema.columns l.rows;
}
