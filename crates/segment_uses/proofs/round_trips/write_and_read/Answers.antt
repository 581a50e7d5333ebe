use Rattle.std.proofs.Common.{◌≡◌, sym}
use Rattle.std.proofs.lemmas.Result.{err_from_is_err_and}
use Rattle.dev_traits.proofs.Moments.{calm_leaves, leaves_still}
use Rattle.dev_traits.specs.Image.{Same}
use Rattle.segment_form.specs.Segments.{segment_file}
use Rattle.segment_uses.proofs.Steps.{read_failed, read_well}
use Rattle.segment_uses.proofs.round_trips.write_and_read.Goals as goal

pub returns-clause-durable : goal.returns-clause-durable
returns-clause-durable g c image told left may =
    c.in_ok-reader.ensures.durable image told left ((c.give_back_reader.ensures.calm.now left).0 may)

pub returns-in_err-found-clause-crash : goal.returns-in_err-found-clause-crash
returns-in_err-found-clause-crash g c =
    leaves_still Same (g.S.Store.view c.args.store.now) (g.S.Store.view c.adopted_rows.new.store) (g.S.Store.view c.give_back_reader.new.self) c.in_ok-reader.ensures.crash (calm_leaves _ _ c.give_back_reader.ensures.calm)

pub returns-clause-crash : goal.returns-clause-crash
returns-clause-crash g c =
    leaves_still Same (g.S.Store.view c.args.store.now) (g.S.Store.view c.adopted_rows.new.store) (g.S.Store.view c.give_back_reader.new.self) c.in_ok-reader.ensures.crash (calm_leaves _ _ c.give_back_reader.ensures.calm)

pub returns-in_err-found-clause-cause : goal.returns-in_err-found-clause-cause
returns-in_err-found-clause-cause g c =
    let p = err_from_is_err_and c.from_residual-in_err-found.result c.from_residual-in_err-found.ensures.1 in
    let before : (g.S.Store.view c.adopted_rows.new.store).faults ≡ (g.S.Store.view c.args.store.now).faults = c.in_ok-reader.ensures.cause.well (λ e. cc) in
    rw (p.1, p.2) (read_failed c.read_rows-reader.result.1 c.in_err-found.field-0.0 (g.S.Reader.SealedReader.view c.in_ok-reader.reader).faults (g.S.Reader.SealedReader.view c.read_rows-reader.result.0).faults
    (g.S.Store.view c.args.store.now).faults (g.S.Store.view c.give_back_reader.new.self).faults c.in_err-found.was
    (record { is_new = c.in_ok-reader.ensures.unread.faults; cause = c.read_rows-reader.ensures.cause; counts = rw (sym before) c.give_back_reader.ensures.counts }))

pub returns-clause-cause : goal.returns-clause-cause
returns-clause-cause g c =
    let before : (g.S.Store.view c.adopted_rows.new.store).faults ≡ (g.S.Store.view c.args.store.now).faults = c.in_ok-reader.ensures.cause.well (λ e. cc) in
    read_well c.read_rows-reader.result.1 c.in_ok-found.field-0 c.in_ok-found.field-0 (g.S.Reader.SealedReader.view c.in_ok-reader.reader).faults (g.S.Reader.SealedReader.view c.read_rows-reader.result.0).faults
    (g.S.Store.view c.args.store.now).faults (g.S.Store.view c.give_back_reader.new.self).faults c.in_ok-found.was
    (record { is_new = c.in_ok-reader.ensures.unread.faults; cause = c.read_rows-reader.ensures.cause; counts = rw (sym before) c.give_back_reader.ensures.counts })
