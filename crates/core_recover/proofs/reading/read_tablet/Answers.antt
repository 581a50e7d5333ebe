use Rattle.std.proofs.Common.{◌≡◌, ◌∙◌, inl, inr, ap, sym, subst, Err}
use Rattle.std.proofs.lemmas.Result.{err_from_is_err_and}
use Rattle.dev_traits.proofs.Moments.{calm_then}
use Rattle.core_recover.specs.Replaying.{IsReplayed}
use Rattle.core_recover.proofs.DamageFacts.{memory_whole}
use Rattle.core_recover.proofs.ClashFacts.{records_agree, unclashed}
use Rattle.core_recover.proofs.ToldFacts.{damage_told, journal_damage}
use Rattle.core_recover.proofs.ReadingFacts.{files_there, schema_is, told_of_records}
use Rattle.core_recover.proofs.TabletFacts.{empty_journal, none_undamaged, one_standing, settled_calm, some_record, stands_undamaged, want_journal}
use Rattle.core_recover.proofs.reading.read_tablet.Goals as goal

pub returns-in_err-journal-clause-intact : goal.returns-in_err-journal-clause-intact
returns-in_err-journal-clause-intact g c =
    let p = err_from_is_err_and c.from_residual.result c.from_residual.ensures.1 in
    rw (p.1, p.2) (λ image told s b stands.
    want_journal c.in_err-journal.field-0.0 (λ e. some_record image stands.standing stands.meant (c.in_err-journal.ensures.empty (ap Err e) image told))
    (λ d e. let w = c.in_err-journal.ensures.damaged d e in stands_undamaged w.0 image s b stands (w.2 image told)))

pub returns-in_err-journal-clause-only_empty : goal.returns-in_err-journal-clause-only_empty
returns-in_err-journal-clause-only_empty g c =
    let p = err_from_is_err_and c.from_residual.result c.from_residual.ensures.1 in
    rw (p.1, p.2) (λ image told none.
    empty_journal c.in_err-journal.field-0.0 (λ d e. let w = c.in_err-journal.ensures.damaged d e in none_undamaged w.0 image none (w.2 image told)))

pub returns-in_err-files-clause-intact : goal.returns-in_err-files-clause-intact
returns-in_err-files-clause-intact g c =
    let p = err_from_is_err_and c.from_residual-in_err-files.result c.from_residual-in_err-files.ensures.1 in
    rw (p.1, p.2) (λ image told s b stands. c.in_err-files.ensures.intact image (c.read_records.ensures.calm.seen ∙ told) stands.stored (files_there c.in_ok-replayed.replayed s b image stands (subst (IsReplayed c.in_ok-replayed.replayed) (one_standing image c.in_ok-journal.ensures.means.0 c.in_ok-journal.field-0.journal s b stands (c.in_ok-journal.ensures.read c.in_ok-journal.ensures.means.0 c.in_ok-journal.ensures.means.1 image told)) (c.in_ok-replayed.ensures c.in_ok-journal.ensures.means.0 c.in_ok-journal.ensures.means.1))))

pub returns-in_err-files-clause-only_empty : goal.returns-in_err-files-clause-only_empty
returns-in_err-files-clause-only_empty g c = λ image told none. absurd (some_record image c.in_ok-journal.ensures.means.0 (c.in_ok-journal.ensures.read c.in_ok-journal.ensures.means.0 c.in_ok-journal.ensures.means.1 image told).says none)

pub returns-clause-replayed : goal.returns-clause-replayed
returns-clause-replayed g c = (c.in_ok-journal.ensures.means.0, (c.in_ok-replayed.ensures c.in_ok-journal.ensures.means.0 c.in_ok-journal.ensures.means.1, (told_of_records c.in_ok-journal.field-0.records.items c.in_ok-journal.ensures.means.0 c.in_ok-journal.ensures.means.1, λ image told. c.in_ok-journal.ensures.read c.in_ok-journal.ensures.means.0 c.in_ok-journal.ensures.means.1 image told)))

pub returns-clause-settled : goal.returns-clause-settled
returns-clause-settled g c = λ honest zeroth first.
    let h = c.in_ok-journal.ensures.settled honest zeroth first c.in_ok-journal.ensures.means.0 c.in_ok-journal.ensures.means.1 in
    (h.bodies, settled_calm (g.S.Store.view c.read_records.new.store) (g.S.Store.view c.read_files.new.store) c.in_ok-journal.field-0.journal.log.area c.in_ok-journal.field-0.journal.log.end h.bodies c.read_files.ensures.calm h.settled)

pub returns-clause-reads : goal.returns-clause-reads
returns-clause-reads g c = λ image told s b stands.
    let is = (subst (IsReplayed c.in_ok-replayed.replayed) (one_standing image c.in_ok-journal.ensures.means.0 c.in_ok-journal.field-0.journal s b stands (c.in_ok-journal.ensures.read c.in_ok-journal.ensures.means.0 c.in_ok-journal.ensures.means.1 image told)) (c.in_ok-replayed.ensures c.in_ok-journal.ensures.means.0 c.in_ok-journal.ensures.means.1)) in
    let f = c.in_ok-files.ensures.reads image (c.read_records.ensures.calm.seen ∙ told) stands.stored (files_there c.in_ok-replayed.replayed s b image stands is) in
    record { schema = schema_is c.in_ok-replayed.replayed s b image stands is; means = is; reads = f.0; indexed = f.1 }

pub returns-clause-never : goal.returns-clause-never
returns-clause-never g c = λ image told none. some_record image c.in_ok-journal.ensures.means.0 (c.in_ok-journal.ensures.read c.in_ok-journal.ensures.means.0 c.in_ok-journal.ensures.means.1 image told).says none

pub returns-clause-calm : goal.returns-clause-calm
returns-clause-calm g c = calm_then (g.S.Store.view c.args.store.now) (g.S.Store.view c.read_records.new.store) (g.S.Store.view c.read_files.new.store) c.read_records.ensures.calm c.read_files.ensures.calm

pub returns-in_err-journal-clause-damaged : goal.returns-in_err-journal-clause-damaged
returns-in_err-journal-clause-damaged g c =
    let p = err_from_is_err_and c.from_residual.result c.from_residual.ensures.1 in
    rw (p.1, p.2) (λ d is image told. let w = c.in_err-journal.ensures.damaged d (journal_damage c.in_err-journal.field-0.0 d is) in inl (w.0, w.1, w.2 image told))

pub returns-in_err-files-clause-damaged : goal.returns-in_err-files-clause-damaged
returns-in_err-files-clause-damaged g c =
    let p = err_from_is_err_and c.from_residual-in_err-files.result c.from_residual-in_err-files.ensures.1 in
    rw (p.1, p.2) (λ d is image told.
    let m = c.in_ok-journal.ensures.means in
    elim (c.in_err-files.ensures.damaged d is image (c.read_records.ensures.calm.seen ∙ told)) [
      | inl damage ↦ inr (m.0, (c.in_ok-journal.ensures.read m.0 m.1 image told).says, damage_told c.in_ok-replayed.replayed m.0 image d (c.in_ok-replayed.ensures m.0 m.1) damage)
      | inr clash ↦ absurd (unclashed c.in_ok-replayed.replayed m.0 (c.in_ok-replayed.ensures m.0 m.1) (records_agree c.in_ok-journal.field-0.records.items m.0 m.1) clash)
    ])

pub returns-clause-there : goal.returns-clause-there
returns-clause-there g c = λ image told. c.in_ok-files.ensures.there image (c.read_records.ensures.calm.seen ∙ told)

pub returns-clause-bytes : goal.returns-clause-bytes
returns-clause-bytes g c = λ image told. c.in_ok-files.ensures.bytes image (c.read_records.ensures.calm.seen ∙ told)

pub returns-clause-indexed : goal.returns-clause-indexed
returns-clause-indexed g c = λ image told. c.in_ok-files.ensures.indexed image (c.read_records.ensures.calm.seen ∙ told)

pub returns-in_err-replayed-clause-damaged : goal.returns-in_err-replayed-clause-damaged
returns-in_err-replayed-clause-damaged g c =
    let p = err_from_is_err_and c.from_residual-in_err-replayed.result c.from_residual-in_err-replayed.ensures.1 in
    rw (p.1, p.2) (λ d is. absurd (memory_whole d is))
