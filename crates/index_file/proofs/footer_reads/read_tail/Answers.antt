use Rattle.std.proofs.Common.{◌-◌, ◌∙◌, refl}
use Rattle.dev_traits.specs.declared.faults.Part.TheVariants as part
use Rattle.index_file.specs.Footers.{FooterShown, TailShown}
use Rattle.index_file.specs.Reads.{OnFile}
use Rattle.index_file.proofs.TailFacts.{damage_of, footer_read, footer_there, no_tail, tail_read, tail_shown}
use Rattle.index_file.proofs.footer_reads.read_tail.Goals as goal

pub returns-in_default-clause-damaged : goal.returns-in_default-clause-damaged
returns-in_default-clause-damaged g c =
    let none = rw c.in_default.is at c.in_ok-len.ensures.none in
    rw c.fault_of.ensures (record { file_is = refl; part_is = refl; shows = λ file told. no_tail file (none file told) })

pub returns-in-Ok-clause-footer : goal.returns-in-Ok-clause-footer
returns-in-Ok-clause-footer g c = λ file told.
    let size = g.met.R.SealedReader.size_is_told c.args.reader.now file told in
    let tail = tail_read file c.deref.result.now c.in_ok-bytes.bytes.items c.length-size.result c.in-Some.len _
    c.length-size.ensures size (g.met.R.SealedReader.size_is_bounded c.args.reader.now) (rw c.in-Some.is at c.in_ok-len.ensures.fits) (rw c.in-Some.is at c.in_ok-len.ensures.told file told) c.deref.ensures.value c.in_ok-bytes.ensures.long
    (c.in_ok-bytes.ensures.bytes file ((rw c.in-Some.is at c.in_ok-len.ensures.read).same.bytes ∙ told)) in
    footer_there c.in-Ok.footer file c.deref.result.now _ c.in-Some.len tail c.in-Ok.ensures.footer.is

pub returns-in-Ok-clause-only : goal.returns-in-Ok-clause-only
returns-in-Ok-clause-only g c = λ file told other has.
    let size = g.met.R.SealedReader.size_is_told c.args.reader.now file told in
    let tail = tail_read file c.deref.result.now c.in_ok-bytes.bytes.items c.length-size.result c.in-Some.len _
    c.length-size.ensures size (g.met.R.SealedReader.size_is_bounded c.args.reader.now) (rw c.in-Some.is at c.in_ok-len.ensures.fits) (rw c.in-Some.is at c.in_ok-len.ensures.told file told) c.deref.ensures.value c.in_ok-bytes.ensures.long
    (c.in_ok-bytes.ensures.bytes file ((rw c.in-Some.is at c.in_ok-len.ensures.read).same.bytes ∙ told)) in
    c.in-Ok.ensures.footer.only other (footer_read other file c.deref.result.now _ c.in-Some.len tail has)

pub returns-clause-damaged : goal.returns-clause-damaged
returns-clause-damaged g c =
    rw c.fault_of-in-Err.ensures (damage_of c.args.number part.Footer c.in-Err.fault
    (TailShown (c.length-size.result - 8 - c.in-Some.len) (c.in-Some.len - 32) c.deref.result.now)
    (λ shown. OnFile (g.R.SealedReader.view c.args.reader.now) (λ file. FooterShown file shown))
    (λ shown shows file told.
    let size = g.met.R.SealedReader.size_is_told c.args.reader.now file told in
    let tail = tail_read file c.deref.result.now c.in_ok-bytes.bytes.items c.length-size.result c.in-Some.len _
    c.length-size.ensures size (g.met.R.SealedReader.size_is_bounded c.args.reader.now) (rw c.in-Some.is at c.in_ok-len.ensures.fits) (rw c.in-Some.is at c.in_ok-len.ensures.told file told) c.deref.ensures.value c.in_ok-bytes.ensures.long
    (c.in_ok-bytes.ensures.bytes file ((rw c.in-Some.is at c.in_ok-len.ensures.read).same.bytes ∙ told)) in
    tail_shown file c.deref.result.now _ c.in-Some.len shown tail shows)
    c.in-Err.ensures.shown)
