use Rattle.std.proofs.Common.{◌≡◌, ap, sym, subst, ◌∙◌, All, IsTrue, arith}
use Rattle.std.specs.Prelude.{Err}
use Rattle.std.proofs.lemmas.Result.{err_from_is_err_and}
use Rattle.pk_values.specs.Schemas.{Layout, fits_row}
use Rattle.segment_read.proofs.Scanning.{if_ok_so}
use Rattle.snapshot_scan.proofs.SnapFacts.{if_err_so}
use Rattle.old_rows.proofs.OneFacts.{block-fills, block-misses, cause-after, cause-err, now-there, one-block, one-cause, one-same}
use Rattle.old_rows.proofs.ReadingFacts.{block-there, broken-block, first_place, no-file, on-damage, part-there, past-file, some-part}
use Rattle.old_rows.proofs.filling.take_block.Goals as goal

pub returns-in_default-clause-damaged : goal.returns-in_default-clause-damaged
returns-in_default-clause-damaged g c =
    on-damage c.astray.result _ c.astray.ensures
    (no-file c.args.snapshot.now c.args.keys.now c.args.wanted.now c.requires.some c.requires.keys c.args.parts.now c.requires.found (sym c.part_of.ensures ∙ c.in_default.is))

pub footer-requires : goal.footer-requires
footer-requires g c = part-there c.args.snapshot.now.parts _ c.in-Some.i (c.requires.found.only _ c.in-Some.i (sym c.part_of.ensures ∙ c.in-Some.is))

pub written_rows-requires-clause-there : goal.written_rows-requires-clause-there
written_rows-requires-clause-there g c = part-there c.args.snapshot.now.parts _ c.in-Some.i (c.requires.found.only _ c.in-Some.i (sym c.part_of.ensures ∙ c.in-Some.is))

pub returns-then-place-fields-clause-damaged : goal.returns-then-place-fields-clause-damaged
returns-then-place-fields-clause-damaged g c =
    let is = c.requires.found.only (first_place c.args.wanted.now).segment c.in-Some.i (sym c.part_of.ensures ∙ c.in-Some.is) in
    let footer = some-part c.args.snapshot.now.parts _ c.in-Some.i (λ part. c.footer.result.now ≡ part.footer) is c.footer.ensures in
    on-damage c.astray-then-place-fields.result _ c.astray-then-place-fields.ensures
    (past-file c.args.snapshot.now c.args.keys.now c.args.wanted.now c.requires.some c.requires.keys c.in-Some.i is
    (omega (arith, c.if-place-fields.true, ap (λ f. f.rows) c.fields.ensures.fields, ap (λ f. f.rows) footer)))

pub written_rows-requires-clause-block : goal.written_rows-requires-clause-block
written_rows-requires-clause-block g c =
    let is = c.requires.found.only (first_place c.args.wanted.now).segment c.in-Some.i (sym c.part_of.ensures ∙ c.in-Some.is) in
    block-there c.args.snapshot.now c.args.wanted.now c.in-Some.i is c.footer.result.now (some-part c.args.snapshot.now.parts _ c.in-Some.i (λ part. c.footer.result.now ≡ part.footer) is c.footer.ensures)
    c.fields.ensures.valid.is (omega (arith, c.if-place-fields.false, ap (λ f. f.rows) c.fields.ensures.fields))

pub returns-in_err-rows-clause-damaged : goal.returns-in_err-rows-clause-damaged
returns-in_err-rows-clause-damaged g c =
    let is = c.requires.found.only (first_place c.args.wanted.now).segment c.in-Some.i (sym c.part_of.ensures ∙ c.in-Some.is) in
    let p = err_from_is_err_and c.from_residual.result c.from_residual.ensures.1 in
    rw (p.1, p.2)
    (broken-block c.args.snapshot.now c.args.keys.now c.args.wanted.now c.requires.some c.requires.keys c.in-Some.i is _
    (some-part c.args.snapshot.now.parts _ c.in-Some.i _ is c.in_err-rows.ensures.damaged) (some-part c.args.snapshot.now.parts _ c.in-Some.i _ is c.in_err-rows.ensures.intact))

pub returns-in_err-rows-clause-cause : goal.returns-in_err-rows-clause-cause
returns-in_err-rows-clause-cause g c =
    let p = err_from_is_err_and c.from_residual.result c.from_residual.ensures.1 in
    cause-err _ _ c.written_rows.result _ c.from_residual.result c.in_err-rows.was (p.1 ∙ ap (λ x. Err x) p.2)
    (one-cause c.args.snapshot.now c.written_rows.new.self c.in-Some.i c.written_rows.result c.written_rows.ensures.version c.written_rows.ensures.schema c.written_rows.ensures.reading)

pub returns-in_err-rows-clause-reads : goal.returns-in_err-rows-clause-reads
returns-in_err-rows-clause-reads g c =
    let is = c.requires.found.only (first_place c.args.wanted.now).segment c.in-Some.i (sym c.part_of.ensures ∙ c.in-Some.is) in
    one-block c.args.snapshot.now c.written_rows.new.self c.in-Some.i c.written_rows.result c.written_rows.ensures.version c.written_rows.ensures.schema c.written_rows.ensures.reading c.args.wanted.now is

pub returns-in_err-rows-clause-same : goal.returns-in_err-rows-clause-same
returns-in_err-rows-clause-same g c =
    one-same c.args.snapshot.now c.written_rows.new.self c.in-Some.i c.written_rows.result c.written_rows.ensures.version c.written_rows.ensures.schema c.written_rows.ensures.reading

pub dead-requires : goal.dead-requires
dead-requires g c =
    let is = c.requires.found.only (first_place c.args.wanted.now).segment c.in-Some.i (sym c.part_of.ensures ∙ c.in-Some.is) in
    now-there c.args.snapshot.now c.written_rows.new.self (one-same c.args.snapshot.now c.written_rows.new.self c.in-Some.i c.written_rows.result c.written_rows.ensures.version c.written_rows.ensures.schema c.written_rows.ensures.reading) _ c.in-Some.i is

pub take_rows-requires-clause-fit : goal.take_rows-requires-clause-fit
take_rows-requires-clause-fit g c =
    subst (λ (s : Layout). All (λ row. IsTrue (fits_row s row)) c.deref.result.now) (sym (c.schema.ensures ∙ c.written_rows.ensures.schema))
    (subst (λ rows. All (λ row. IsTrue (fits_row c.args.snapshot.now.schema row)) rows) (sym c.deref.ensures.value) c.in_ok-rows.ensures.fit)

pub returns-clause-filled : goal.returns-clause-filled
returns-clause-filled g c =
    let is = c.requires.found.only (first_place c.args.wanted.now).segment c.in-Some.i (sym c.part_of.ensures ∙ c.in-Some.is) in
    if_ok_so c.take_rows.result _ _ (λ x more. block-fills c.args.snapshot.now c.written_rows.new.self c.args.keys.now c.args.wanted.now c.requires.some c.requires.keys c.requires.one c.in-Some.i is
    (one-same c.args.snapshot.now c.written_rows.new.self c.in-Some.i c.written_rows.result c.written_rows.ensures.version c.written_rows.ensures.schema c.written_rows.ensures.reading) c.in_ok-rows.rows.items c.in_ok-rows.ensures.rows c.in_ok-rows.ensures.bytes (block-there c.args.snapshot.now c.args.wanted.now c.in-Some.i is c.footer.result.now (some-part c.args.snapshot.now.parts _ c.in-Some.i (λ part. c.footer.result.now ≡ part.footer) is c.footer.ensures)
    c.fields.ensures.valid.is (omega (arith, c.if-place-fields.false, ap (λ f. f.rows) c.fields.ensures.fields))) c.schema.result.now c.schema.ensures c.deref.result.now c.deref.ensures.value c.dead.result.now c.dead.ensures _ _ more) c.take_rows.ensures.taken

pub returns-clause-damaged : goal.returns-clause-damaged
returns-clause-damaged g c =
    let is = c.requires.found.only (first_place c.args.wanted.now).segment c.in-Some.i (sym c.part_of.ensures ∙ c.in-Some.is) in
    if_err_so c.take_rows.result _ _ (λ e may. block-misses c.args.snapshot.now c.written_rows.new.self c.args.keys.now c.args.wanted.now c.requires.some c.requires.keys c.requires.one c.in-Some.i is
    (one-same c.args.snapshot.now c.written_rows.new.self c.in-Some.i c.written_rows.result c.written_rows.ensures.version c.written_rows.ensures.schema c.written_rows.ensures.reading) c.in_ok-rows.rows.items c.in_ok-rows.ensures.rows c.in_ok-rows.ensures.bytes (block-there c.args.snapshot.now c.args.wanted.now c.in-Some.i is c.footer.result.now (some-part c.args.snapshot.now.parts _ c.in-Some.i (λ part. c.footer.result.now ≡ part.footer) is c.footer.ensures)
    c.fields.ensures.valid.is (omega (arith, c.if-place-fields.false, ap (λ f. f.rows) c.fields.ensures.fields))) c.schema.result.now c.schema.ensures c.deref.result.now c.deref.ensures.value c.dead.result.now c.dead.ensures e may) c.take_rows.ensures.missing

pub returns-clause-cause : goal.returns-clause-cause
returns-clause-cause g c =
    cause-after _ _ c.written_rows.result c.in_ok-rows.rows c.take_rows.result c.in_ok-rows.was
    (one-cause c.args.snapshot.now c.written_rows.new.self c.in-Some.i c.written_rows.result c.written_rows.ensures.version c.written_rows.ensures.schema c.written_rows.ensures.reading)
    (if_err_so c.take_rows.result _ _ (λ e may. may.unfailed) c.take_rows.ensures.missing)

pub returns-clause-reads : goal.returns-clause-reads
returns-clause-reads g c =
    let is = c.requires.found.only (first_place c.args.wanted.now).segment c.in-Some.i (sym c.part_of.ensures ∙ c.in-Some.is) in
    one-block c.args.snapshot.now c.written_rows.new.self c.in-Some.i c.written_rows.result c.written_rows.ensures.version c.written_rows.ensures.schema c.written_rows.ensures.reading c.args.wanted.now is

pub returns-clause-same : goal.returns-clause-same
returns-clause-same g c =
    one-same c.args.snapshot.now c.written_rows.new.self c.in-Some.i c.written_rows.result c.written_rows.ensures.version c.written_rows.ensures.schema c.written_rows.ensures.reading
