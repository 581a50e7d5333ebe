use Rattle.index_file.proofs.ReaderFacts.{same_read}
use Rattle.pk_index.proofs.FileFacts.{FileIs, same_file}
use Rattle.pk_index.proofs.index_files.IndexFileFileLevel.probe.Goals as goal

pub returns-clause-same : goal.returns-clause-same
returns-clause-same g c =
    let view = g.R.SealedReader.view in
    let old = c.args.self.now in
    let new = c.probe.new.file in
    let before : FileIs = record { base = old.base; number = old.number; footer = old.footer; view = view old.reader } in
    let after : FileIs = record { base = new.base; number = new.number; footer = new.footer; view = view new.reader } in
    let read = same_read 1 (view old.reader) (view new.reader) c.probe.result c.probe.ensures.reading in
    let same = same_file before after c.probe.ensures.base c.probe.ensures.number c.probe.ensures.footer read.bytes in
    record { levels = same.levels; entries = same.entries; reading = same.reading; damage_at = same.damage_at; damage = same.damage }
