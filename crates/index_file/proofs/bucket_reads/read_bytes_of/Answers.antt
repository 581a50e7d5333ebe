use Rattle.std.proofs.Math.Logic.{∥∥₁_elim}
use Rattle.std.proofs.Common.{◌+◌, ◌≤◌, ◌∙◌, ap, arith, length, refl}
use Rattle.index_file.specs.Reads.{bucket_in}
use Rattle.index_file.specs.declared.footers.BucketMark.{BucketMark}
use Rattle.index_file.proofs.BucketReads.{same_mark}
use Rattle.index_file.proofs.FooterFacts.{bucket_within}
use Rattle.index_file.proofs.bucket_reads.read_bytes_of.Goals as goal

pub returns-then-not-is_inside-clause-damaged : goal.returns-then-not-is_inside-clause-damaged
returns-then-not-is_inside-clause-damaged g c = rw c.fault_of.ensures (record {
  file_is = refl;
  part_is = refl;
  shows = λ file told.
      let size = g.met.R.SealedReader.size_is_told c.args.reader.now file told in
      let inside = λ (within : c.mark-mark.result.place + c.mark-mark.result.length + 32 ≤ length file). c.is_inside.ensures.1 (omega (arith, within, c.length.ensures, size)) in
      ∥∥₁_elim c.requires.known (λ x. absurd x) (λ known. let h = inside (bucket_within c.args.footer.now file c.args.b c.mark-mark.result (known file told) c.mark-mark.ensures) in cc);
})

pub returns-clause-bytes : goal.returns-clause-bytes
returns-clause-bytes g c = λ file told mark got.
    c.in_ok-bytes.ensures.bytes file told ∙ ap (λ (m : BucketMark). bucket_in file m) (same_mark c.args.footer.now.buckets c.args.b c.mark-mark.result mark c.mark-mark.ensures got)

pub returns-clause-long : goal.returns-clause-long
returns-clause-long g c = λ mark got.
    c.in_ok-bytes.ensures.long ∙ ap (λ (m : BucketMark). m.length + 32) (same_mark c.args.footer.now.buckets c.args.b c.mark-mark.result mark c.mark-mark.ensures got)
