use Rattle.index_file.proofs.FooterFacts.{no_fields, read_fits, read_is}
use Rattle.index_file.proofs.footer_reads.footer_in.Goals as goal

pub returns-in_ok-buckets-in-Some-2-clause-fits : goal.returns-in_ok-buckets-in-Some-2-clause-fits
returns-in_ok-buckets-in-Some-2-clause-fits c =
    read_fits c.in-Some-2.entries c.in-Some-2.pairs c.as_slice.result.now c.in_ok-buckets-in-Some-2.buckets c.in-Some.fields.now (rw c.in-Some-2.is at c.in_ok-entries.ensures.some) c.in_ok-buckets-in-Some-2.ensures c.as_slice.ensures

pub returns-in_ok-buckets-in-Some-2-clause-some : goal.returns-in_ok-buckets-in-Some-2-clause-some
returns-in_ok-buckets-in-Some-2-clause-some c =
    read_is c.in-Some-2.entries c.in-Some-2.pairs c.as_slice.result.now c.in_ok-buckets-in-Some-2.buckets c.args.bytes.now c.in-Some.fields.now (rw c.in-Some-2.is at c.in_ok-entries.ensures.some) c.in-Some.ensures.some c.in_ok-buckets-in-Some-2.ensures c.as_slice.ensures

pub returns-in-None-clause-none : goal.returns-in-None-clause-none
returns-in-None-clause-none c = no_fields c.args.bytes.now c.in-Some.fields.now c.in-Some.ensures.some (rw c.in-None.is at c.in_ok-entries.ensures.none)
