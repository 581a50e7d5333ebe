use Rattle.std.proofs.Common.{◌≡◌, drop}
use Rattle.std.specs.List.{list_all}
use Rattle.index_file.specs.Entries.{belongs}
use Rattle.index_file.proofs.bucket_reads.all_belong.Given as goal

abbrev pub invariant-loop-entry : goal.invariant-loop-entry
invariant-loop-entry l = list_all (belongs l.buckets l.b l.base) (drop l.entry-index l.entries) ≡ list_all (belongs l.buckets l.b l.base) l.entries
