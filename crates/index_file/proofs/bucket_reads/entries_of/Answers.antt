use Rattle.std.proofs.Common.{◌∙◌, ap, sym}
use Rattle.std.specs.List.{list_all}
use Rattle.std.specs.FinMap.{is_sorted}
use Rattle.std.specs.Cmp.Lexicographic.{slice_cmp}
use Rattle.std.specs.Ordering.{nat_cmp}
use Rattle.index_file.specs.Entries.{belongs}
use Rattle.index_file.proofs.BucketReads.{no_bucket_at_all, no_other_bucket, the_bucket}
use Rattle.index_file.proofs.bucket_reads.entries_of.Goals as goal
use Rattle.index_file.proofs.bucket_reads.entries_of.Goals.{else-keys_rise-via-then-keys_rise+else-all_belong, else-keys_rise-via-else-keys_rise}

pub returns-then-all_belong-clause-entries : goal.returns-then-all_belong-clause-entries
returns-then-all_belong-clause-entries c =
    the_bucket c.args.buckets c.args.b c.args.base c.args.len c.args.bytes.now c.in-Ok-Some.entries.items c.requires.long c.in_default.ensures.agree (rw c.in-Ok-Some.field-0-is at c.in-Ok-Some.ensures.some)
    (ap (is_sorted (slice_cmp nat_cmp)) (sym c.deref.ensures.value) ∙ sym c.if-keys_rise.ensures)
    (ap (list_all (belongs c.args.buckets c.args.b c.args.base)) (sym c.deref-then-keys_rise.ensures.value) ∙ sym c.if-all_belong.ensures)

pub returns-else-keys_rise-clause-shown : goal.returns-else-keys_rise-clause-shown
returns-else-keys_rise-clause-shown c =
    no_other_bucket c.args.buckets c.args.b c.args.base c.args.len c.args.bytes.now c.in-Ok-Some.entries.items c.requires.long c.in_default.ensures.agree (rw c.in-Ok-Some.field-0-is at c.in-Ok-Some.ensures.some)
    (λ rise belong. elim c.else-keys_rise.branch [
      | else-keys_rise-via-then-keys_rise+else-all_belong w ↦ let other = w.if-all_belong.ensures ∙ ap (list_all (belongs c.args.buckets c.args.b c.args.base)) w.deref-then-keys_rise.ensures.value ∙ belong in cc
      | else-keys_rise-via-else-keys_rise w ↦ let other = w.if-keys_rise.ensures ∙ ap (is_sorted (slice_cmp nat_cmp)) c.deref.ensures.value ∙ rise in cc
    ])

pub returns-in-Ok-None-clause-shown : goal.returns-in-Ok-None-clause-shown
returns-in-Ok-None-clause-shown c = no_bucket_at_all c.args.buckets c.args.b c.args.base c.args.len c.args.bytes.now c.requires.long c.in_default.ensures.agree (rw c.in-Ok-None.field-0-is at c.in-Ok-None.ensures.none)
