use Rattle.std.proofs.Common.{◌∙◌, get_or, take}
use Rattle.std.proofs.lemmas.Option.{slice_get-get_or}
use Rattle.dev_traits.proofs.Moments.{calm_then}
use Rattle.store_files.specs.declared.attaching.NamedFile.{NamedFile}
use Rattle.store_files.proofs.FileFacts.{attached_more, attached_still, cause_between, damage_still, none_failed, none_still, take_got, well_ok}
use Rattle.store_files.proofs.attaching.attach_all.Goals as goal

abbrev no_file : NamedFile
no_file = record { number = 0; rows = 0 }

pub returns-in-Err-clause-calm : goal.returns-in-Err-clause-calm
returns-in-Err-clause-calm g c = calm_then _ _ _ (calm_then _ _ _ c.loop-file.invariant.calm c.attach_next.ensures.calm) c.give_back_all.ensures.calm

pub returns-in-Err-clause-damaged : goal.returns-in-Err-clause-damaged
returns-in-Err-clause-damaged g c =
    damage_still c.args.schema.now (g.S.Store.view c.args.store.now) (g.S.Store.view c.loop-file.store) c.args.files.now c.loop-file.file-index (get_or c.args.files.now c.loop-file.file-index no_file) c.in-Err.fault
    c.loop-file.invariant.calm.seen (slice_get-get_or c.args.files.now c.loop-file.file-index no_file c.loop-file-test.true) c.in-Err.ensures.damaged

pub returns-in-Err-clause-intact : goal.returns-in-Err-clause-intact
returns-in-Err-clause-intact g c =
    none_still c.args.schema.now (g.S.Store.view c.args.store.now) (g.S.Store.view c.loop-file.store) c.args.files.now c.loop-file.file-index (get_or c.args.files.now c.loop-file.file-index no_file) c.in-Err.fault
    c.loop-file.invariant.calm.seen (slice_get-get_or c.args.files.now c.loop-file.file-index no_file c.loop-file-test.true) c.in-Err.ensures.intact

pub returns-in-Err-clause-cause : goal.returns-in-Err-clause-cause
returns-in-Err-clause-cause g c =
    let view = g.S.Reader.SealedReader.view in
    let none = none_failed view c.args.schema.now (g.S.Store.view c.args.store.now) (take c.loop-file.file-index c.args.files.now) c.loop-file.segments.items c.loop-file.invariant.attached in
    cause_between view c.loop-file.segments.items c.attach_next.new.segments.items _ _ _ _ c.in-Err.fault c.loop-file.invariant.unfailed c.in-Err.ensures.cause c.in-Err.ensures.unchanged none c.give_back_all.ensures.counts

pub loop-file-preserved : goal.loop-file-preserved
loop-file-preserved g c =
    let view = g.S.Reader.SealedReader.view in
    let old = g.S.Store.view c.args.store.now in
    let mid = g.S.Store.view c.loop-file.store in
    let f = get_or c.args.files.now c.loop-file.file-index no_file in
    let w = c.in-Ok.ensures.attached in
    record {
      attached = attached_more view c.args.schema.now old (take c.loop-file.file-index c.args.files.now) _ c.loop-file.segments.items c.attach_next.new.segments.items f
          (take_got c.args.files.now c.loop-file.file-index f (slice_get-get_or c.args.files.now c.loop-file.file-index no_file c.loop-file-test.true)) c.loop-file.invariant.attached
          (w.0, w.1, attached_still view c.args.schema.now old mid f w.0 c.loop-file.invariant.calm.seen w.2);
      calm = calm_then _ _ _ c.loop-file.invariant.calm c.attach_next.ensures.calm;
      unfailed = well_ok _ _ _ c.in-Ok.ensures.cause ∙ c.loop-file.invariant.unfailed;
    }
