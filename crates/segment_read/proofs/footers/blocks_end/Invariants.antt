use Rattle.std.proofs.Common.{◌≡◌, ◌≤◌, ◌*◌, ◌^◌, drop}
use Rattle.segment_read.specs.Footers.{blocks_end}
use Rattle.segment_read.proofs.footers.blocks_end.Given as goal

abbrev pub invariant-loop-b : goal.invariant-loop-b
invariant-loop-b l = record {
  same : blocks_end l.at (drop l.b l.footer.blocks) ≡ blocks_end 0 l.footer.blocks;
  near : l.at ≤ l.b * 2 ^ 33;
}
