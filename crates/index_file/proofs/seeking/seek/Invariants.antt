use Rattle.std.proofs.Common.{◌≤◌, List, length}
use Rattle.index_file.specs.Buckets.{Pair}
use Rattle.index_file.specs.Reading.{IsBucket}
use Rattle.index_file.proofs.SeekFacts.{Left}
use Rattle.index_file.proofs.seeking.seek.Given as goal

abbrev pub invariant-loop-n : goal.invariant-loop-n
invariant-loop-n l = record {
  inside : l.at ≤ length l.bytes;
  left : (es : List Pair) → IsBucket l.bytes es → Left l.bytes l.key l._n l.at es;
}
