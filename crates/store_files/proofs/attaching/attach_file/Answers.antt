use Rattle.store_files.proofs.FileFacts.{attached_still, damage_told, if_err_so, if_ok_so, none_told}
use Rattle.store_files.proofs.attaching.attach_file.Goals as goal

pub returns-in-Ok-clause-attached : goal.returns-in-Ok-clause-attached
returns-in-Ok-clause-attached g c =
    if_ok_so c.attach_reader.result _ _ (λ segment is. attached_still g.S.Reader.SealedReader.view c.args.schema.now (g.S.Store.view c.args.store.now) (g.S.Store.view c.reader.new.self) c.args.file segment c.reader.ensures.calm.seen is) c.attach_reader.ensures.attached

pub returns-in-Ok-clause-damaged : goal.returns-in-Ok-clause-damaged
returns-in-Ok-clause-damaged g c =
    if_err_so c.attach_reader.result _ _ (λ e is. damage_told c.args.schema.now (g.S.Store.view c.args.store.now) (g.S.Store.view c.reader.new.self) c.args.file e c.reader.ensures.calm.seen is) c.attach_reader.ensures.damaged

pub returns-in-Ok-clause-intact : goal.returns-in-Ok-clause-intact
returns-in-Ok-clause-intact g c =
    if_err_so c.attach_reader.result _ _ (λ e is. none_told c.args.schema.now (g.S.Store.view c.args.store.now) (g.S.Store.view c.reader.new.self) c.args.file e c.reader.ensures.calm.seen is) c.attach_reader.ensures.intact
