use Rattle.std.proofs.Common.{length}
use Rattle.index_file.proofs.ReaderFacts.{same_read}
use Rattle.pk_index.proofs.FileFacts.{FileIs, same_file}
use Rattle.pk_index.proofs.index_files.IndexFileFileLevel.entries.Goals as goal

pub returns-clause-same : goal.returns-clause-same
returns-clause-same g c =
    let view = g.R.SealedReader.view in
    let old = c.args.self.now in
    let new = c.entries.new.file in
    let before : FileIs = record { base = old.base; number = old.number; footer = old.footer; view = view old.reader } in
    let after : FileIs = record { base = new.base; number = new.number; footer = new.footer; view = view new.reader } in
    let read = same_read (length c.args.self.now.footer.buckets) (view old.reader) (view new.reader) c.entries.result c.entries.ensures.reading in
    let same = same_file before after c.entries.ensures.base c.entries.ensures.number c.entries.ensures.footer read.bytes in
    record { levels = same.levels; entries = same.entries; reading = same.reading; damage_at = same.damage_at; damage = same.damage }
