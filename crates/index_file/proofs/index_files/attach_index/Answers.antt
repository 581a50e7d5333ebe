use Rattle.index_file.proofs.MadeFacts.{attached_level, intact_footer, made_has_footer}
use Rattle.index_file.proofs.ReaderFacts.{same_read}
use Rattle.index_file.proofs.index_files.attach_index.Goals as goal

pub returns-in-Ok-clause-level : goal.returns-in-Ok-clause-level
returns-in-Ok-clause-level g c bytes told f level is =
    let view = g.R.SealedReader.view in
    attached_level c.args.base f c.in-Ok.footer bytes level (view c.args.reader) (view c.read_tail.new.reader) (c.in-Ok.ensures.only bytes told f (made_has_footer c.args.base f bytes level is))
    (same_read 2 (view c.args.reader) (view c.read_tail.new.reader) c.read_tail.result c.read_tail.ensures.reading) told is

pub returns-in-Err-clause-intact : goal.returns-in-Err-clause-intact
returns-in-Err-clause-intact g c tells = intact_footer c.in-Err.fault c.args.number c.args.base (g.R.SealedReader.view c.args.reader) c.in-Err.ensures.damaged tells
