use Rattle.std.proofs.Common.{subst, length, ℕ}
use Rattle.dev_traits.specs.declared.faults.Part.TheVariants as part
use Rattle.index_file.specs.declared.footers.BucketMark.{BucketMark}
use Rattle.index_file.specs.Entries.{BucketShown, IsTheBucket}
use Rattle.index_file.specs.Reads.{OfBucket}
use Rattle.index_file.proofs.BucketReads.{same_mark}
use Rattle.index_file.proofs.TailFacts.{damage_of}
use Rattle.index_file.proofs.bucket_reads.told_entries.Goals as goal

pub entries_of-requires-clause-long : goal.entries_of-requires-clause-long
entries_of-requires-clause-long c = c.requires.long c.mark-len.result c.mark-len.ensures

pub returns-in-Ok-clause-entries : goal.returns-in-Ok-clause-entries
returns-in-Ok-clause-entries c = subst (λ (k : ℕ). IsTheBucket k c.args.b c.args.base c.args.bytes.now c.in-Ok.entries.items) c.len.ensures c.in-Ok.ensures.entries

pub returns-in-Err-clause-damaged : goal.returns-in-Err-clause-damaged
returns-in-Err-clause-damaged c =
    rw c.fault_of.ensures (damage_of c.args.number (part.Bucket c.args.b) c.in-Err.fault
    (BucketShown c.len.result c.args.b c.args.base c.mark-len.result.length c.args.bytes.now)
    (λ shown. OfBucket c.args.footer.now c.args.b (λ mark. BucketShown (length c.args.footer.now.buckets) c.args.b c.args.base mark.length c.args.bytes.now shown))
    (λ shown shows mark got.
    subst (λ (k : ℕ). BucketShown k c.args.b c.args.base mark.length c.args.bytes.now shown) c.len.ensures
    (subst (λ (x : BucketMark). BucketShown c.len.result c.args.b c.args.base x.length c.args.bytes.now shown) (same_mark c.args.footer.now.buckets c.args.b c.mark-len.result mark c.mark-len.ensures got) shows))
    c.in-Err.ensures.shown)
