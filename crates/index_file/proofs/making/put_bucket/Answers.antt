use Rattle.std.proofs.Common.{◌≡◌, ◌-◌, ap, arith, length, List, ℕ}
use Rattle.index_file.specs.Buckets.{bucket_body, in_bucket}
use Rattle.index_file.specs.declared.footers.BucketMark.{BucketMark}
use Rattle.index_file.proofs.BucketFacts.{length-bucket_file}
use Rattle.index_file.proofs.making.put_bucket.Goals as goal

pub overflow_sub-length : goal.overflow_sub-length
overflow_sub-length g c =
    let bucket = in_bucket c.args.buckets c.args.entries.now c.args.b in
    omega (arith, c.len.ensures, c.in_ok-bytes.bytes.ok.0, ap (λ (bs : List ℕ). length bs) c.in_ok-bytes.ensures, length-bucket_file bucket)

pub returns-clause-mark : goal.returns-clause-mark
returns-clause-mark g c =
    let bucket = in_bucket c.args.buckets c.args.entries.now c.args.b in
    let long : c.len.result - 32 ≡ length (bucket_body bucket) = omega (arith, c.len.ensures, c.in_ok-bytes.bytes.ok.0, ap (λ (bs : List ℕ). length bs) c.in_ok-bytes.ensures, length-bucket_file bucket) in
    ap (λ (n : ℕ). mark n) long
  where
    mark : ℕ → BucketMark
    mark n = record { place = c.args.place; length = n }
