use Rattle.std.proofs.Common.{◌≡◌, ◌≤◌, List, ℕ, length}
use Rattle.std.specs.Prelude.{All}
use Rattle.column_page.specs.declared.footers.BlockMark.{BlockMark}
use Rattle.column_page.specs.Footers.{block_bytes}
use Rattle.column_page.specs.FooterReading.{BlockFits, HaveElements, SequenceThen}
use Rattle.column_page.proofs.footer_reads.read_blocks.Given as goal

abbrev pub invariant-loop-i : goal.invariant-loop-i
invariant-loop-i l = record {
  fit : All (BlockFits l.columns) l.blocks.items;
  number : length l.blocks.items ≡ l.i;
  within : l.at ≤ length l.bytes;
  so_far : (blocks : List BlockMark) (rest : List ℕ) → SequenceThen (BlockFits l.columns) block_bytes l.count l.bytes blocks rest → HaveElements block_bytes l.blocks.items l.i l.at l.bytes blocks rest;
}
