use Rattle.std.proofs.Common.{◌∙◌, subst, sym}
use Rattle.dev_traits.specs.declared.faults.ReadFault.{ReadFault}
use Rattle.segment_read.specs.Reads.{OnDamage}
use Rattle.store_files.specs.Named.{IsFileDamage}
use Rattle.store_files.proofs.FileFacts.{rows_damage}
use Rattle.store_files.proofs.attaching.attach_reader.Goals as goal

pub returns-else-rows-named-clause-damaged : goal.returns-else-rows-named-clause-damaged
returns-else-rows-named-clause-damaged g c =
    let view = g.S.Store.view c.args.store.now in
    let told = c.rows.ensures in
    let differ = c.if-rows-named.false in
    subst (λ (e : ReadFault). OnDamage e (IsFileDamage c.args.schema.now view c.args.named)) (sym c.footer_damage.ensures)
    (rows_damage c.args.schema.now view (g.S.Reader.SealedReader.view c.args.reader) c.args.named c.in-Ok.segment.footer c.requires.bytes
    (λ file is. c.in-Ok.ensures.footer file (c.in-Ok.ensures.attached.same.bytes ∙ is)) (λ e. differ (told ∙ e)) c.requires.there)
