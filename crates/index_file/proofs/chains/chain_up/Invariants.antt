use Rattle.std.proofs.Common.{◌≡◌, ◌-◌, drop, length}
use Rattle.std.specs.List.{AllByRecursion}
use Rattle.index_file.specs.Buckets.{PairFits}
use Rattle.index_file.specs.Chains.{Chained}
use Rattle.index_file.proofs.chains.chain_up.Given as goal

abbrev pub invariant-loop-n : goal.invariant-loop-n
invariant-loop-n l = record {
  size : l.end ≡ length l.entries;
  chained : Chained l.entries l.buckets (l.end - l.n) l.first.items l.counts.items l.next.items;
  fit : AllByRecursion PairFits (drop (l.end - l.n) l.entries);
}
