use Rattle.std.proofs.Common.{◌≡◌, ◌++◌, length, take}
use Rattle.std.specs.List.{flat_map}
use Rattle.index_file.specs.Buckets.{entry_bytes, u64_bytes}
use Rattle.index_file.proofs.writing.write_bucket.Given as goal

abbrev pub invariant-loop-entry : goal.invariant-loop-entry
invariant-loop-entry l = l.out.items ≡ u64_bytes (length l.entries) ++ flat_map entry_bytes (take l.entry-index l.entries)
