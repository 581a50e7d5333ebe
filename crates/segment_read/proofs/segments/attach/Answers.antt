use Rattle.std.proofs.Common.{◌∙◌, sym}
use Rattle.segment_read.proofs.NoDamage.{footer_of_segment, footer_undamaged}
use Rattle.segment_read.proofs.segments.attach.Goals as goal

pub returns-in-Ok-clause-footer : goal.returns-in-Ok-clause-footer
returns-in-Ok-clause-footer g c = λ file told. c.in-Ok.ensures.footer file (sym c.in-Ok.ensures.reading.same.bytes ∙ told)

pub returns-in-Ok-clause-of_segment : goal.returns-in-Ok-clause-of_segment
returns-in-Ok-clause-of_segment g c = λ file told rows is.
    footer_of_segment c.args.schema.now file c.in-Ok.footer rows c.columns-columns.ensures.valid (c.in-Ok.ensures.only file told) is

pub returns-in-Err-clause-intact : goal.returns-in-Err-clause-intact
returns-in-Err-clause-intact g c =
    footer_undamaged c.args.schema.now c.args.number (g.R.SealedReader.view c.args.reader) c.in-Err.fault c.columns-columns.ensures.valid c.in-Err.ensures.damaged
