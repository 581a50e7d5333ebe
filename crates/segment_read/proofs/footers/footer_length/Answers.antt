use Rattle.std.proofs.Common.{◌∙◌, sym, arith}
use Rattle.segment_read.proofs.TailFacts.{last_four, same_number, tail_parts}
use Rattle.segment_read.proofs.footers.footer_length.Goals as goal

pub returns-then-size-lt4-clause-none : goal.returns-then-size-lt4-clause-none
returns-then-size-lt4-clause-none g c = λ file told body digest tail.
    let parts = tail_parts file body digest tail in
    let size = g.met.R.SealedReader.size_is_told c.args.reader.now file told in
    absurd (omega (arith, parts.inside, c.length-size.ensures, c.if-size-lt4.true))

pub returns-then-fits_tail-clause-told : goal.returns-then-fits_tail-clause-told
returns-then-fits_tail-clause-told g c = λ file told.
    let size = g.met.R.SealedReader.size_is_told c.args.reader.now file told in
    last_four file c.read_at.new.into c.length-size.result c.number_of-len.result (c.length-size.ensures ∙ size) c.if-size-lt4.false (c.in_ok-read_at.ensures.bytes file told) c.number_of-len.ensures

pub returns-else-fits_tail-clause-none : goal.returns-else-fits_tail-clause-none
returns-else-fits_tail-clause-none g c = λ file told body digest tail.
    let parts = tail_parts file body digest tail in
    let size = g.met.R.SealedReader.size_is_told c.args.reader.now file told in
    let number = last_four file c.read_at.new.into c.length-size.result c.number_of-len.result (c.length-size.ensures ∙ size) c.if-size-lt4.false (c.in_ok-read_at.ensures.bytes file told) c.number_of-len.ensures in
    let short = parts.short in
    let inside = parts.inside in
    let same = same_number c.number_of-len.result _ (omega arith) (omega arith) (sym number ∙ parts.number) in
    let fits = c.fits_tail.ensures.1 (omega arith, omega arith, omega (arith, c.length-size.ensures, size)) in
    cc
