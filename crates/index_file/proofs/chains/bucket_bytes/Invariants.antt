use Rattle.std.proofs.Common.{◌≡◌, ◌++◌, drop}
use Rattle.std.specs.List.{flat_map}
use Rattle.index_file.specs.Buckets.{bucket_body, entry_bytes, in_bucket}
use Rattle.index_file.specs.Chains.{Leads}
use Rattle.index_file.proofs.chains.bucket_bytes.Given as goal

abbrev pub invariant-loop-n : goal.invariant-loop-n
invariant-loop-n l = record {
  leads : Leads l.entries l.chains.next.items l.at (drop l._n (in_bucket l.buckets l.entries l.b));
  so_far : l.out.items ++ flat_map entry_bytes (drop l._n (in_bucket l.buckets l.entries l.b)) ≡ bucket_body (in_bucket l.buckets l.entries l.b);
}
