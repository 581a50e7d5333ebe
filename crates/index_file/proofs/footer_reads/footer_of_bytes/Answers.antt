use Rattle.std.proofs.Common.{◌∙◌, ap, sym, arith}
use Rattle.index_file.specs.Footers.{stand_until}
use Rattle.index_file.proofs.FooterFacts.{no_footer, no_other, the_footer}
use Rattle.index_file.proofs.footer_reads.footer_of_bytes.Goals as goal
use Rattle.index_file.proofs.footer_reads.footer_of_bytes.Goals.{else-number-buckets_for-via-then-number-buckets_for+else-stand_until, else-number-buckets_for-via-else-number-buckets_for}

pub returns-then-stand_until-clause-footer : goal.returns-then-stand_until-clause-footer
returns-then-stand_until-clause-footer c =
    the_footer c.args.end c.args.len c.args.bytes.now c.in-Ok-Some.footer (rw c.in-Ok-Some.field-0-is at c.in-Ok-Some.ensures.fits) (rw c.in-Ok-Some.field-0-is at c.in-Ok-Some.ensures.some) c.in_default.ensures.agree
    (omega (arith, c.len-number.ensures, c.buckets_for.ensures, c.if-number-buckets_for.true))
    (ap (stand_until c.args.end 0) (sym c.as_slice.ensures) ∙ sym c.if-stand_until.ensures)

pub returns-else-number-buckets_for-clause-shown : goal.returns-else-number-buckets_for-clause-shown
returns-else-number-buckets_for-clause-shown c =
    no_other c.args.end c.args.len c.args.bytes.now c.in-Ok-Some.footer c.requires (rw c.in-Ok-Some.field-0-is at c.in-Ok-Some.ensures.fits) (rw c.in-Ok-Some.field-0-is at c.in-Ok-Some.ensures.some) c.in_default.ensures.agree
    (λ number stand. elim c.else-number-buckets_for.branch [
      | else-number-buckets_for-via-then-number-buckets_for+else-stand_until w ↦ let other = w.if-stand_until.ensures ∙ ap (stand_until c.args.end 0) w.as_slice.ensures ∙ stand in cc
      | else-number-buckets_for-via-else-number-buckets_for w ↦ omega (arith, c.len-number.ensures, c.buckets_for.ensures, w.if-number-buckets_for.false, number)
    ])

pub returns-in-Ok-None-clause-shown : goal.returns-in-Ok-None-clause-shown
returns-in-Ok-None-clause-shown c = no_footer c.args.end c.args.len c.args.bytes.now c.requires c.in_default.ensures.agree (rw c.in-Ok-None.field-0-is at c.in-Ok-None.ensures.none)
