use Rattle.std.proofs.Common.{◌≡◌, ◌≤◌, List, ℕ, length}
use Rattle.std.specs.Prelude.{All}
use Rattle.column_page.specs.declared.footers.ColumnMark.{ColumnMark}
use Rattle.column_page.specs.Footers.{mark_bytes}
use Rattle.column_page.specs.FooterReading.{HaveElements, MarkFits, SequenceThen}
use Rattle.column_page.proofs.footer_reads.read_marks.Given as goal

abbrev pub invariant-loop-i : goal.invariant-loop-i
invariant-loop-i l = record {
  fit : All MarkFits l.marks.items;
  number : length l.marks.items ≡ l.i;
  within : l.at ≤ length l.bytes;
  so_far : (marks : List ColumnMark) (rest : List ℕ) → SequenceThen MarkFits mark_bytes l.count l.bytes marks rest → HaveElements mark_bytes l.marks.items l.i l.at l.bytes marks rest;
}
