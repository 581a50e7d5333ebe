use Rattle.std.proofs.Common.{◌≡◌, ◌∙◌, inl, inr, IsTrue, List, ap, map, refl, sym, subst}
use Rattle.std.specs.List.{AllByRecursion}
use Rattle.std.proofs.lemmas.Result.{err_from_is_err_and}
use Rattle.column_page.specs.Footers.{is_footer}
use Rattle.dev_traits.specs.View.{Told}
use Rattle.rowsets.specs.Live.{Files}
use Rattle.store_files.specs.Named.{AreStored, IsDamageOfOne}
use Rattle.store_files.proofs.FileFacts.{none_failed}
use Rattle.core_recover.specs.Naming.{AreNamed}
use Rattle.core_recover.specs.Reading.{named}
use Rattle.core_recover.proofs.AttachFacts.{all_stored, has_files, numbers_seen, reads_files}
use Rattle.core_recover.proofs.DamageFacts.{all_reading, all_there, damage_here, footer_damage, memory_whole, read_damage}
use Rattle.core_recover.proofs.IndexingFacts.{on_damage}
use Rattle.core_recover.proofs.TabletFacts.{cause_memory, want_read}
use Rattle.core_recover.proofs.reading.attach_named.Goals as goal

pub returns-in_err-segments-clause-intact : goal.returns-in_err-segments-clause-intact
returns-in_err-segments-clause-intact g c =
    let p = err_from_is_err_and c.from_residual-in_err-segments.result c.from_residual-in_err-segments.ensures.1 in
    rw (p.1, p.2) (λ image told stored are.
    want_read c.in_err-segments.field-0.0
    (on_damage c.in_err-segments.field-0.0 (λ d. Told (g.S.Store.view c.args.store.now) (λ image. (stored : Files) → AreStored c.args.replayed.now.schema stored c.deref.result.now image → ⊥)) (λ d. ⊥)
    (λ d none. none image told stored (all_stored c.args.replayed.now.schema stored (named c.args.replayed.now) c.deref.result.now image are (subst (AreNamed (named c.args.replayed.now)) (sym c.deref.ensures.value) c.in_ok-files.ensures.named).only)) c.in_err-segments.ensures.intact))

pub returns-in-Ok-clause-has : goal.returns-in-Ok-clause-has
returns-in-Ok-clause-has g c =
    has_files g.S.Reader.SealedReader.view c.args.replayed.now.schema (g.S.Store.view c.args.store.now) c.args.replayed.now c.deref.result.now c.in_ok-segments.segments.items refl c.keys-keys.ensures.valid c.in_ok-files.ensures.few (subst (AreNamed (named c.args.replayed.now)) (sym c.deref.ensures.value) c.in_ok-files.ensures.named) c.in_ok-segments.ensures.attached
    (subst (AllByRecursion (λ s. IsTrue (is_footer s.footer))) c.deref-2.ensures.value c.in-Ok.ensures.footers)

pub returns-in-Ok-clause-numbers : goal.returns-in-Ok-clause-numbers
returns-in-Ok-clause-numbers g c = c.in-Ok.ensures.numbers ∙ ap (map (λ s. s.number)) c.deref-2.ensures.value ∙ numbers_seen g.S.Reader.SealedReader.view c.in_ok-segments.segments.items

pub returns-in-Ok-clause-reads : goal.returns-in-Ok-clause-reads
returns-in-Ok-clause-reads g c = λ image told stored are. reads_files g.S.Reader.SealedReader.view c.args.replayed.now.schema (g.S.Store.view c.args.store.now) stored (named c.args.replayed.now) c.deref.result.now c.in_ok-segments.segments.items image told are (subst (AreNamed (named c.args.replayed.now)) (sym c.deref.ensures.value) c.in_ok-files.ensures.named) c.in_ok-segments.ensures.attached

pub returns-clause-cause : goal.returns-clause-cause
returns-clause-cause g c =
    cause_memory _ _ _ _ c.in_ok-segments.segments c.in_ok-segments.ensures.cause c.give_back_all.ensures.counts (none_failed g.S.Reader.SealedReader.view c.args.replayed.now.schema (g.S.Store.view c.args.store.now) c.deref.result.now c.in_ok-segments.segments.items c.in_ok-segments.ensures.attached)

pub returns-in_err-files-clause-damaged : goal.returns-in_err-files-clause-damaged
returns-in_err-files-clause-damaged g c =
    let p = err_from_is_err_and c.from_residual.result c.from_residual.ensures.1 in
    rw (p.1, p.2) (λ d is image told. inr (c.in_err-files.ensures.damaged d is))

pub returns-in_err-segments-clause-damaged : goal.returns-in_err-segments-clause-damaged
returns-in_err-segments-clause-damaged g c =
    let p = err_from_is_err_and c.from_residual-in_err-segments.result c.from_residual-in_err-segments.ensures.1 in
    rw (p.1, p.2) (λ d is image told.
    inl (footer_damage c.args.replayed.now.schema (g.S.Store.view c.args.store.now) (named c.args.replayed.now) c.deref.result.now image d told
    (subst (AreNamed (named c.args.replayed.now)) (sym c.deref.ensures.value) c.in_ok-files.ensures.named).only
    (damage_here c.in_err-segments.field-0.0 d (IsDamageOfOne c.args.replayed.now.schema (g.S.Store.view c.args.store.now) c.deref.result.now) (read_damage c.in_err-segments.field-0.0 d is) c.in_err-segments.ensures.damaged)))

pub returns-in-Ok-clause-there : goal.returns-in-Ok-clause-there
returns-in-Ok-clause-there g c = λ image told.
    all_there g.S.Reader.SealedReader.view c.args.replayed.now.schema (g.S.Store.view c.args.store.now) c.deref.result.now c.in_ok-segments.segments.items image (named c.args.replayed.now) told c.in_ok-segments.ensures.attached
    (subst (AreNamed (named c.args.replayed.now)) (sym c.deref.ensures.value) c.in_ok-files.ensures.named).has

pub returns-in-Ok-clause-bytes : goal.returns-in-Ok-clause-bytes
returns-in-Ok-clause-bytes g c = λ image told.
    all_reading g.S.Reader.SealedReader.view c.args.replayed.now.schema (g.S.Store.view c.args.store.now) c.deref.result.now c.in_ok-segments.segments.items image told c.in_ok-segments.ensures.attached

pub returns-clause-damaged : goal.returns-clause-damaged
returns-clause-damaged g c = λ d is. absurd (memory_whole d is)
