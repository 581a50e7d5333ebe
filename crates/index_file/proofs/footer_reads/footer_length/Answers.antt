use Rattle.std.proofs.Common.{◌∙◌, ◌<◌, ◌^◌, sym, arith}
use Rattle.index_file.proofs.TailFacts.{last_eight, same_number, tail_parts}
use Rattle.index_file.proofs.footer_reads.footer_length.Goals as goal

pub returns-then-size-lt8-clause-none : goal.returns-then-size-lt8-clause-none
returns-then-size-lt8-clause-none g c = λ file told body digest tail.
    let parts = tail_parts file body digest tail in
    let size = g.met.R.SealedReader.size_is_told c.args.reader.now file told in
    absurd (omega (arith, size, parts.inside, c.length-size.ensures, c.if-size-lt8.true))

pub returns-then-fits_tail-clause-told : goal.returns-then-fits_tail-clause-told
returns-then-fits_tail-clause-told g c = λ file told.
    let size = g.met.R.SealedReader.size_is_told c.args.reader.now file told in
    last_eight file c.read_at.new.into c.length-size.result c.number_of-len.result (c.length-size.ensures ∙ size) c.if-size-lt8.false (c.in_ok-read_at.ensures.bytes file told) c.number_of-len.ensures

pub returns-else-fits_tail-clause-none : goal.returns-else-fits_tail-clause-none
returns-else-fits_tail-clause-none g c = λ file told body digest tail.
    let parts = tail_parts file body digest tail in
    let size = g.met.R.SealedReader.size_is_told c.args.reader.now file told in
    let number = last_eight file c.read_at.new.into c.length-size.result c.number_of-len.result (c.length-size.ensures ∙ size) c.if-size-lt8.false (c.in_ok-read_at.ensures.bytes file told) c.number_of-len.ensures in
    let inside = parts.inside in
    let small : c.number_of-len.result < 2 ^ 64 = omega arith in
    let same = same_number c.number_of-len.result _ small parts.short (sym number ∙ parts.number) in
    let fits = c.fits_tail.ensures.1 (omega (arith, same), omega (arith, same, inside, c.length-size.ensures, size)) in
    cc
