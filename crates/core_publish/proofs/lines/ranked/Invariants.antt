use Rattle.std.proofs.Common.{◌≡◌, length}
use Rattle.std.specs.Prelude.{All}
use Rattle.core_publish.specs.Lines.{AreCounted, IsRanked}
use Rattle.core_publish.proofs.lines.ranked.Given as goal

abbrev pub invariant-loop-line : goal.invariant-loop-line
invariant-loop-line l = record {
  ranked : All (IsRanked l.schema l.ops) l.ranks.items;
  counted : AreCounted 0 l.ranks.items;
  each : length l.ranks.items ≡ l.line;
}
