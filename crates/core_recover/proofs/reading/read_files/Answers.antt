use Rattle.std.proofs.Common.{◌≡◌, ◌∙◌, inl, ℕ, ap, sym, subst}
use Rattle.std.proofs.lemmas.Result.{err_from_is_err_and}
use Rattle.dev_traits.specs.Causes.{Counts}
use Rattle.journal_form.specs.Versions.{files_of}
use Rattle.tablet_state.specs.Seen.{segments_of}
use Rattle.core_recover.specs.Damages.{IsLiveDamage}
use Rattle.core_recover.specs.Indexing.{HasNoIndex}
use Rattle.core_recover.proofs.DamageFacts.{damage_here, live_damage, named_damage, read_damage}
use Rattle.core_recover.specs.Opening.{IsWant}
use Rattle.core_recover.proofs.AttachFacts.{faults_alike}
use Rattle.core_recover.proofs.IndexingFacts.{numbers_same, on_damage, well_zero}
use Rattle.core_recover.proofs.TabletFacts.{cause_given_back, files_read_same, files_same, index_named, index_read, index_whole, reading_same, want_read, well_opened}
use Rattle.core_recover.proofs.reading.read_files.Goals as goal

pub returns-in_err-numbers-clause-intact : goal.returns-in_err-numbers-clause-intact
returns-in_err-numbers-clause-intact g c =
    let p = err_from_is_err_and c.from_residual.result c.from_residual.ensures.1 in
    rw (p.1, p.2) (λ image told stored are. c.in_err-numbers.ensures.intact image told stored are.segments)

pub returns-in-Ok-clause-has : goal.returns-in-Ok-clause-has
returns-in-Ok-clause-has g c =
    files_same c.args.replayed.now (segments_of g.S.Reader.SealedReader.view c.in_ok-numbers.field-0.segments.items) (segments_of g.S.Reader.SealedReader.view c.index_of_live.new.segments.items) c.index_of_live.ensures.same (well_zero (segments_of g.S.Reader.SealedReader.view c.in_ok-numbers.field-0.segments.items) (segments_of g.S.Reader.SealedReader.view c.index_of_live.new.segments.items) c.in-Ok.index c.in-Ok.ensures.cause c.in_ok-numbers.ensures.has.unfailed) c.in_ok-numbers.ensures.has

pub returns-in-Ok-clause-numbers : goal.returns-in-Ok-clause-numbers
returns-in-Ok-clause-numbers g c = c.in_ok-numbers.ensures.numbers ∙ sym (numbers_same (segments_of g.S.Reader.SealedReader.view c.in_ok-numbers.field-0.segments.items) (segments_of g.S.Reader.SealedReader.view c.index_of_live.new.segments.items) c.index_of_live.ensures.same.footers)

pub returns-in-Ok-clause-reads : goal.returns-in-Ok-clause-reads
returns-in-Ok-clause-reads g c = λ image told stored are.
    let reads = c.in_ok-numbers.ensures.reads image told stored are.segments in
    (files_read_same c.args.replayed.now stored (segments_of g.S.Reader.SealedReader.view c.in_ok-numbers.field-0.segments.items) (segments_of g.S.Reader.SealedReader.view c.index_of_live.new.segments.items) c.index_of_live.ensures.same reads, index_read c.args.replayed.now stored image (segments_of g.S.Reader.SealedReader.view c.in_ok-numbers.field-0.segments.items) c.in-Ok.index.map are reads c.in-Ok.ensures.index)

pub returns-in-Err-clause-intact : goal.returns-in-Err-clause-intact
returns-in-Err-clause-intact g c = λ image told stored are.
    let reads = c.in_ok-numbers.ensures.reads image told stored are.segments in
    subst IsWant (sym c.from.ensures)
    (want_read c.in-Err.fault (on_damage c.in-Err.fault (λ d. HasNoIndex c.args.replayed.now.schema (files_of c.args.replayed.now.current) (segments_of g.S.Reader.SealedReader.view c.in_ok-numbers.field-0.segments.items)) (λ d. ⊥) (λ d none. index_whole c.args.replayed.now stored image (segments_of g.S.Reader.SealedReader.view c.in_ok-numbers.field-0.segments.items) are reads none) c.in-Err.ensures.intact))

pub returns-in-Err-clause-cause : goal.returns-in-Err-clause-cause
returns-in-Err-clause-cause g c =
    rw c.from.ensures
    (cause_given_back _ _ _ _ c.in-Err.fault (well_opened _ _ c.in_ok-numbers.field-0 c.in_ok-numbers.ensures.cause) (c.in-Err.ensures.cause c.in_ok-numbers.ensures.has.unfailed)
    (subst (λ (n : ℕ). Counts n (g.S.Store.view c.attach_named.new.store).faults (g.S.Store.view c.give_back_all.new.store).faults) (faults_alike g.S.Reader.SealedReader.view c.index_of_live.new.segments.items) c.give_back_all.ensures.counts))

pub returns-in_err-numbers-clause-damaged : goal.returns-in_err-numbers-clause-damaged
returns-in_err-numbers-clause-damaged g c =
    let p = err_from_is_err_and c.from_residual.result c.from_residual.ensures.1 in
    rw (p.1, p.2) (λ d is image told. named_damage c.args.replayed.now image d (c.in_err-numbers.ensures.damaged d is image told))

pub returns-in-Err-clause-damaged : goal.returns-in-Err-clause-damaged
returns-in-Err-clause-damaged g c = λ d is image told.
    let segs = segments_of g.S.Reader.SealedReader.view c.in_ok-numbers.field-0.segments.items in
    inl (live_damage c.args.replayed.now segs image c.in_ok-numbers.ensures.has (c.in_ok-numbers.ensures.bytes image told) (c.in_ok-numbers.ensures.there image told) d
    (damage_here c.in-Err.fault d (IsLiveDamage c.args.replayed.now.schema (files_of c.args.replayed.now.current) segs) (read_damage c.in-Err.fault d (sym c.from.ensures ∙ is)) c.in-Err.ensures.damaged))

pub returns-in-Ok-clause-bytes : goal.returns-in-Ok-clause-bytes
returns-in-Ok-clause-bytes g c = λ image told.
    reading_same image (segments_of g.S.Reader.SealedReader.view c.in_ok-numbers.field-0.segments.items) (segments_of g.S.Reader.SealedReader.view c.index_of_live.new.segments.items) c.index_of_live.ensures.same (c.in_ok-numbers.ensures.bytes image told)

pub returns-in-Ok-clause-indexed : goal.returns-in-Ok-clause-indexed
returns-in-Ok-clause-indexed g c = λ image told stored are.
    index_named c.args.replayed.now stored image (segments_of g.S.Reader.SealedReader.view c.in_ok-numbers.field-0.segments.items) c.in-Ok.index.map are (c.in_ok-numbers.ensures.reads image told stored are) c.in-Ok.ensures.index
