use Rattle.std.proofs.Common.{◌≡◌, ◌≤◌, ◌*◌, ◌^◌, drop}
use Rattle.column_page.specs.Footers.{blocks_fit}
use Rattle.column_page.proofs.footer_fits.blocks_fit.Given as goal

abbrev pub invariant-loop-block : goal.invariant-loop-block
invariant-loop-block l = record {
  same : blocks_fit l.columns 0 l.rows l.blocks ≡ blocks_fit l.columns l.at l.left (drop l.block-index l.blocks);
  near : l.at ≤ l.block-index * 2 ^ 33;
}
