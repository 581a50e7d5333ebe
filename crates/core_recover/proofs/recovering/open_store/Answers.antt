use Rattle.std.proofs.Common.{◌≡◌, ◌⊎◌, ◌∙◌, inl, inr, refl, ℕ, Some, is_some, sym, subst, ap, IsTrue, Bool, Err, arith}
use Rattle.std.proofs.lemmas.Result.{err_from_is_err_and}
use Rattle.dev_traits.specs.Image.{with_files_of}
use Rattle.dev_traits.specs.View.{LeavesOnly}
use Rattle.pk_model.specs.Durable.{durable}
use Rattle.rowsets.specs.Marks.{Rises}
use Rattle.store_files.proofs.IndexFacts.{codes_find_rows, live_are_moved}
use Rattle.version_journal.specs.Images.{HasNoRecord}
use Rattle.version_journal.specs.Journals.{ReadsAs}
use Rattle.tablet_state.specs.Seen.{segments_of}
use Rattle.tablet_state.specs.Stands.{Stands}
use Rattle.core_recover.specs.Areas.{IsLike}
use Rattle.core_recover.proofs.CreateFacts.{calm_each, only_behind}
use Rattle.core_recover.proofs.OpenFacts.{like_none, like_stands, rises_each, settled_still}
use Rattle.core_recover.proofs.OpenedFacts.{IsSettledFrom, at_first, each_like, empty_before, from_calm, like_book, like_none_book, mid, forgot_read, mid_like, mid_stands, none_each, open_so, opened_so, settled_blanks, settled_moments, synced_calm, while_kept}
use Rattle.core_recover.proofs.KeepFacts.{held_so, memory_keeps, readers_so, some_one, still_blanks, still_kept, still_same, store_or_memory, want_whole}
use Rattle.core_recover.proofs.AreaFacts.{files_still}
use Rattle.core_recover.specs.declared.faults.OpenFault.TheVariants as fault
use Rattle.dev_traits.proofs.Moments.{calm_then}
use Rattle.std.specs.FinMap.{get}
use Rattle.core_recover.proofs.DamageFacts.{memory_whole, store_whole}
use Rattle.core_recover.proofs.ToldFacts.{damage_back}
use Rattle.core_recover.proofs.ReadingFacts.{own_so}
use Rattle.core_recover.proofs.TabletFacts.{err_over, no_err}
use Rattle.core_recover.proofs.recovering.open_store.Goals as goal

pub returns-in_err-room-clause-any_moment : goal.returns-in_err-room-clause-any_moment
returns-in_err-room-clause-any_moment g c = λ honest image told s b stands.
    let v0 = g.S.Store.view c.args.store.now in let v1 = g.S.Store.view c.room.new.self in
    at_first (λ left. Stands s (durable b) left) v0 v1 (λ i since. g.met.S.Store.only_now c.args.store.now i since) c.room.ensures.calm

pub returns-in_err-settle_areas-clause-any_moment : goal.returns-in_err-settle_areas-clause-any_moment
returns-in_err-settle_areas-clause-any_moment g c = λ honest image told s b stands.
    let v0 = g.S.Store.view c.args.store.now in let v1 = g.S.Store.view c.room.new.self in let v2 = g.S.Store.view c.settle_areas.new.store in
    like_book v0 v2 image s b stands (from_calm (IsLike image) v0 v1 v2 c.room.ensures.calm (c.settle_areas.ensures.any_moment (subst (λ (t : Bool). IsTrue t) (sym c.room.ensures.calm.honest) honest) image (c.room.ensures.calm.seen ∙ told)))

pub returns-in_err-tablet-clause-any_moment : goal.returns-in_err-tablet-clause-any_moment
returns-in_err-tablet-clause-any_moment g c = λ honest image told s b stands.
    let v0 = g.S.Store.view c.args.store.now in let v1 = g.S.Store.view c.room.new.self in let v2 = g.S.Store.view c.settle_areas.new.store in let v3 = g.S.Store.view c.read_tablet.new.store in
    let p : IsSettledFrom v0 v1 v2 = record { calm = c.room.ensures.calm; tells = c.settle_areas.ensures.spends.tells; seen = c.in_ok-settle_areas.ensures.seen; like = c.in_ok-settle_areas.ensures.like; moments = c.settle_areas.ensures.any_moment } in
    only_behind (λ left. v0.may_leave left ⊎ Stands s (durable b) left) v0 v2 v3 (like_book v0 v2 image s b stands (settled_moments v0 v1 v2 p image told honest)) c.read_tablet.ensures.calm

pub returns-in-Ok-clause-any_moment : goal.returns-in-Ok-clause-any_moment
returns-in-Ok-clause-any_moment g c = λ honest image told s b stands.
    let v0 = g.S.Store.view c.args.store.now in let v1 = g.S.Store.view c.room.new.self in let v2 = g.S.Store.view c.settle_areas.new.store in let v3 = g.S.Store.view c.read_tablet.new.store in let v4 = g.S.Store.view c.keep_files.new.store in
    let p : IsSettledFrom v0 v1 v2 = record { calm = c.room.ensures.calm; tells = c.settle_areas.ensures.spends.tells; seen = c.in_ok-settle_areas.ensures.seen; like = c.in_ok-settle_areas.ensures.like; moments = c.settle_areas.ensures.any_moment } in
    let m = mid v0 v1 v2 p image told in
    let read = c.in_ok-tablet.ensures.reads m.0 m.1 s (durable b) (mid_stands v0 v1 v2 p image told s b stands) in
    let so_far = only_behind (λ left. v0.may_leave left ⊎ Stands s (durable b) left) v0 v2 v3 (like_book v0 v2 image s b stands (settled_moments v0 v1 v2 p image told honest)) c.read_tablet.ensures.calm in
    let like = calm_each (IsLike image) v2 v3 c.read_tablet.ensures.calm (each_like v0 v1 v2 p image told honest) in
    let kept = while_kept c.in_ok-tablet.tablet.replayed (segments_of g.S.Reader.SealedReader.view c.in_ok-tablet.tablet.files.segments.items) c.deref.result.now s b image v0 v3 v4 (c.deref.ensures.value ∙ c.in_ok-tablet.ensures.numbers) stands read.means c.in_ok-tablet.ensures.has so_far like c.keep_files.ensures.moments in
    kept

pub returns-in-Err-clause-any_moment : goal.returns-in-Err-clause-any_moment
returns-in-Err-clause-any_moment g c = λ honest image told s b stands.
    let v0 = g.S.Store.view c.args.store.now in let v1 = g.S.Store.view c.room.new.self in let v2 = g.S.Store.view c.settle_areas.new.store in let v3 = g.S.Store.view c.read_tablet.new.store in let v4 = g.S.Store.view c.keep_files.new.store in
    let p : IsSettledFrom v0 v1 v2 = record { calm = c.room.ensures.calm; tells = c.settle_areas.ensures.spends.tells; seen = c.in_ok-settle_areas.ensures.seen; like = c.in_ok-settle_areas.ensures.like; moments = c.settle_areas.ensures.any_moment } in
    let m = mid v0 v1 v2 p image told in
    let read = c.in_ok-tablet.ensures.reads m.0 m.1 s (durable b) (mid_stands v0 v1 v2 p image told s b stands) in
    let so_far = only_behind (λ left. v0.may_leave left ⊎ Stands s (durable b) left) v0 v2 v3 (like_book v0 v2 image s b stands (settled_moments v0 v1 v2 p image told honest)) c.read_tablet.ensures.calm in
    let like = calm_each (IsLike image) v2 v3 c.read_tablet.ensures.calm (each_like v0 v1 v2 p image told honest) in
    let kept = while_kept c.in_ok-tablet.tablet.replayed (segments_of g.S.Reader.SealedReader.view c.in_ok-tablet.tablet.files.segments.items) c.deref.result.now s b image v0 v3 v4 (c.deref.ensures.value ∙ c.in_ok-tablet.ensures.numbers) stands read.means c.in_ok-tablet.ensures.has so_far like c.keep_files.ensures.moments in
    only_behind (λ left. v0.may_leave left ⊎ Stands s (durable b) left) v0 v4 (g.S.Store.view c.give_back.new.store) kept c.give_back.ensures.calm

pub returns-in_err-settle_areas-clause-empty_left : goal.returns-in_err-settle_areas-clause-empty_left
returns-in_err-settle_areas-clause-empty_left g c = λ honest image told none.
    let v0 = g.S.Store.view c.args.store.now in let v1 = g.S.Store.view c.room.new.self in let v2 = g.S.Store.view c.settle_areas.new.store in
    (like_none_book v0 v2 image none (from_calm (IsLike image) v0 v1 v2 c.room.ensures.calm (c.settle_areas.ensures.any_moment (subst (λ (t : Bool). IsTrue t) (sym c.room.ensures.calm.honest) honest) image (c.room.ensures.calm.seen ∙ told)))).now

pub returns-in_err-tablet-clause-empty_left : goal.returns-in_err-tablet-clause-empty_left
returns-in_err-tablet-clause-empty_left g c = λ honest image told none.
    let v0 = g.S.Store.view c.args.store.now in let v1 = g.S.Store.view c.room.new.self in let v2 = g.S.Store.view c.settle_areas.new.store in let v3 = g.S.Store.view c.read_tablet.new.store in
    let p : IsSettledFrom v0 v1 v2 = record { calm = c.room.ensures.calm; tells = c.settle_areas.ensures.spends.tells; seen = c.in_ok-settle_areas.ensures.seen; like = c.in_ok-settle_areas.ensures.like; moments = c.settle_areas.ensures.any_moment } in
    (only_behind (λ left. v0.may_leave left ⊎ HasNoRecord left) v0 v2 v3 (like_none_book v0 v2 image none (settled_moments v0 v1 v2 p image told honest)) c.read_tablet.ensures.calm).now

pub returns-in-Ok-clause-empty_left : goal.returns-in-Ok-clause-empty_left
returns-in-Ok-clause-empty_left g c = λ honest image told none.
    let v0 = g.S.Store.view c.args.store.now in let v1 = g.S.Store.view c.room.new.self in let v2 = g.S.Store.view c.settle_areas.new.store in
    let p : IsSettledFrom v0 v1 v2 = record { calm = c.room.ensures.calm; tells = c.settle_areas.ensures.spends.tells; seen = c.in_ok-settle_areas.ensures.seen; like = c.in_ok-settle_areas.ensures.like; moments = c.settle_areas.ensures.any_moment } in
    let m = mid v0 v1 v2 p image told in
    absurd (c.in_ok-tablet.ensures.never m.0 m.1 (like_none image m.0 (mid_like v0 v1 v2 p image told) none))

pub returns-in-Err-clause-empty_left : goal.returns-in-Err-clause-empty_left
returns-in-Err-clause-empty_left g c = λ honest image told none.
    let v0 = g.S.Store.view c.args.store.now in let v1 = g.S.Store.view c.room.new.self in let v2 = g.S.Store.view c.settle_areas.new.store in
    let p : IsSettledFrom v0 v1 v2 = record { calm = c.room.ensures.calm; tells = c.settle_areas.ensures.spends.tells; seen = c.in_ok-settle_areas.ensures.seen; like = c.in_ok-settle_areas.ensures.like; moments = c.settle_areas.ensures.any_moment } in
    let m = mid v0 v1 v2 p image told in
    absurd (c.in_ok-tablet.ensures.never m.0 m.1 (like_none image m.0 (mid_like v0 v1 v2 p image told) none))

pub returns-in-Ok-clause-only_empty : goal.returns-in-Ok-clause-only_empty
returns-in-Ok-clause-only_empty g c = λ honest image told none.
    let v0 = g.S.Store.view c.args.store.now in let v1 = g.S.Store.view c.room.new.self in let v2 = g.S.Store.view c.settle_areas.new.store in
    let p : IsSettledFrom v0 v1 v2 = record { calm = c.room.ensures.calm; tells = c.settle_areas.ensures.spends.tells; seen = c.in_ok-settle_areas.ensures.seen; like = c.in_ok-settle_areas.ensures.like; moments = c.settle_areas.ensures.any_moment } in
    let m = mid v0 v1 v2 p image told in
    absurd (c.in_ok-tablet.ensures.never m.0 m.1 (like_none image m.0 (mid_like v0 v1 v2 p image told) none))

pub returns-in-Err-clause-only_empty : goal.returns-in-Err-clause-only_empty
returns-in-Err-clause-only_empty g c = λ honest image told none.
    let v0 = g.S.Store.view c.args.store.now in let v1 = g.S.Store.view c.room.new.self in let v2 = g.S.Store.view c.settle_areas.new.store in
    let p : IsSettledFrom v0 v1 v2 = record { calm = c.room.ensures.calm; tells = c.settle_areas.ensures.spends.tells; seen = c.in_ok-settle_areas.ensures.seen; like = c.in_ok-settle_areas.ensures.like; moments = c.settle_areas.ensures.any_moment } in
    let m = mid v0 v1 v2 p image told in
    absurd (c.in_ok-tablet.ensures.never m.0 m.1 (like_none image m.0 (mid_like v0 v1 v2 p image told) none))

pub returns-in_err-tablet-clause-only_empty : goal.returns-in_err-tablet-clause-only_empty
returns-in_err-tablet-clause-only_empty g c = let r = err_from_is_err_and c.from_residual-in_err-tablet.result c.from_residual-in_err-tablet.ensures.1 in
    rw (r.1, r.2) (λ honest image told none.
    let v0 = g.S.Store.view c.args.store.now in let v1 = g.S.Store.view c.room.new.self in let v2 = g.S.Store.view c.settle_areas.new.store in
    let p : IsSettledFrom v0 v1 v2 = record { calm = c.room.ensures.calm; tells = c.settle_areas.ensures.spends.tells; seen = c.in_ok-settle_areas.ensures.seen; like = c.in_ok-settle_areas.ensures.like; moments = c.settle_areas.ensures.any_moment } in
    let m = mid v0 v1 v2 p image told in
    (tt, c.in_err-tablet.ensures.only_empty m.0 m.1 (like_none image m.0 (mid_like v0 v1 v2 p image told) none)))

pub returns-in_err-tablet-clause-intact : goal.returns-in_err-tablet-clause-intact
returns-in_err-tablet-clause-intact g c = let r = err_from_is_err_and c.from_residual-in_err-tablet.result c.from_residual-in_err-tablet.ensures.1 in
    rw (r.1, r.2) (λ honest image told s b stands.
    let v0 = g.S.Store.view c.args.store.now in let v1 = g.S.Store.view c.room.new.self in let v2 = g.S.Store.view c.settle_areas.new.store in
    let p : IsSettledFrom v0 v1 v2 = record { calm = c.room.ensures.calm; tells = c.settle_areas.ensures.spends.tells; seen = c.in_ok-settle_areas.ensures.seen; like = c.in_ok-settle_areas.ensures.like; moments = c.settle_areas.ensures.any_moment } in
    let m = mid v0 v1 v2 p image told in
    c.in_err-tablet.ensures.intact m.0 m.1 s (durable b) (mid_stands v0 v1 v2 p image told s b stands))

pub returns-in_err-tablet-clause-empty : goal.returns-in_err-tablet-clause-empty
returns-in_err-tablet-clause-empty g c = let r = err_from_is_err_and c.from_residual-in_err-tablet.result c.from_residual-in_err-tablet.ensures.1 in
    rw (r.1, r.2) (λ is.
    let v0 = g.S.Store.view c.args.store.now in let v1 = g.S.Store.view c.room.new.self in let v2 = g.S.Store.view c.settle_areas.new.store in
    let p : IsSettledFrom v0 v1 v2 = record { calm = c.room.ensures.calm; tells = c.settle_areas.ensures.spends.tells; seen = c.in_ok-settle_areas.ensures.seen; like = c.in_ok-settle_areas.ensures.like; moments = c.settle_areas.ensures.any_moment } in
    empty_before v0 v1 v2 p (c.in_err-tablet.ensures.empty (err_over _ _ is)))

pub returns-in_err-tablet-clause-all_empty : goal.returns-in_err-tablet-clause-all_empty
returns-in_err-tablet-clause-all_empty g c = let r = err_from_is_err_and c.from_residual-in_err-tablet.result c.from_residual-in_err-tablet.ensures.1 in
    rw (r.1, r.2) (λ is honest.
    let v0 = g.S.Store.view c.args.store.now in let v1 = g.S.Store.view c.room.new.self in let v2 = g.S.Store.view c.settle_areas.new.store in let v3 = g.S.Store.view c.read_tablet.new.store in
    let p : IsSettledFrom v0 v1 v2 = record { calm = c.room.ensures.calm; tells = c.settle_areas.ensures.spends.tells; seen = c.in_ok-settle_areas.ensures.seen; like = c.in_ok-settle_areas.ensures.like; moments = c.settle_areas.ensures.any_moment } in
    let image = g.met.S.Store.honest_reads c.args.store.now honest in
    none_each v3 image.0 (empty_before v0 v1 v2 p (c.in_err-tablet.ensures.empty (err_over _ _ is)) image.0 image.1) (calm_each (IsLike image.0) v2 v3 c.read_tablet.ensures.calm (each_like v0 v1 v2 p image.0 image.1 honest)))

pub returns-in-Ok-clause-own : goal.returns-in-Ok-clause-own
returns-in-Ok-clause-own g c = own_so c.in_ok-tablet.tablet.replayed c.in_ok-tablet.tablet.files.index.map c.in_ok-tablet.ensures.replayed.0 (segments_of g.S.Reader.SealedReader.view c.in_ok-tablet.tablet.files.segments.items) c.in_ok-tablet.ensures.replayed.1.0 c.in_ok-tablet.ensures.replayed.1.1.0 c.in_ok-tablet.ensures.has

pub returns-in-Ok-clause-open : goal.returns-in-Ok-clause-open
returns-in-Ok-clause-open g c = let v0 = g.S.Store.view c.args.store.now in let v1 = g.S.Store.view c.room.new.self in let v2 = g.S.Store.view c.settle_areas.new.store in let v3 = g.S.Store.view c.read_tablet.new.store in let v4 = g.S.Store.view c.keep_files.new.store in
    open_so c.in_ok-tablet.tablet.replayed c.in_ok-tablet.tablet.files.index.map c.in_ok-tablet.ensures.replayed.0 (segments_of g.S.Reader.SealedReader.view c.in_ok-tablet.tablet.files.segments.items) c.deref.result.now c.in_ok-tablet.tablet.journal v3 v4 (c.deref.ensures.value ∙ c.in_ok-tablet.ensures.numbers) c.in_ok-tablet.ensures.replayed.1.0 c.in_ok-tablet.ensures.replayed.1.1.0 c.in_ok-tablet.ensures.has (λ i seen. c.in_ok-tablet.ensures.replayed.1.1.1 i (sym c.read_tablet.ensures.calm.seen ∙ seen)) c.in-Ok.ensures.forgot
    (λ h4.
    let honest = subst (λ (t : Bool). IsTrue t) (c.keep_files.ensures.honest ∙ c.read_tablet.ensures.calm.honest ∙ c.settle_areas.ensures.spends.honest ∙ c.room.ensures.calm.honest) h4 in
    let h1 = subst (λ (t : Bool). IsTrue t) (sym c.room.ensures.calm.honest) honest in
    let h2 = subst (λ (t : Bool). IsTrue t) (sym c.settle_areas.ensures.spends.honest) h1 in
    let h3 = subst (λ (t : Bool). IsTrue t) (sym c.read_tablet.ensures.calm.honest) h2 in
    let s3 = c.in_ok-tablet.ensures.settled h2 (c.in_ok-settle_areas.ensures.synced 0 (omega arith)) (c.in_ok-settle_areas.ensures.synced 1 (omega arith)) in
    let settled = settled_still c.deref.result.now v3 v4 c.in_ok-tablet.tablet.journal.log.area c.in_ok-tablet.tablet.journal.log.end s3.0 c.keep_files.ensures.honest c.keep_files.ensures.moments s3.1 in (s3.0, settled))

pub returns-in-Ok-clause-book : goal.returns-in-Ok-clause-book
returns-in-Ok-clause-book g c = λ honest image told s b stands.
    let v0 = g.S.Store.view c.args.store.now in let v1 = g.S.Store.view c.room.new.self in let v2 = g.S.Store.view c.settle_areas.new.store in let v3 = g.S.Store.view c.read_tablet.new.store in let v4 = g.S.Store.view c.keep_files.new.store in
    let p : IsSettledFrom v0 v1 v2 = record { calm = c.room.ensures.calm; tells = c.settle_areas.ensures.spends.tells; seen = c.in_ok-settle_areas.ensures.seen; like = c.in_ok-settle_areas.ensures.like; moments = c.settle_areas.ensures.any_moment } in
    let m = mid v0 v1 v2 p image told in
    let read = c.in_ok-tablet.ensures.reads m.0 m.1 s (durable b) (mid_stands v0 v1 v2 p image told s b stands) in
    let h1 = subst (λ (t : Bool). IsTrue t) (sym c.room.ensures.calm.honest) honest in
    let h2 = subst (λ (t : Bool). IsTrue t) (sym c.settle_areas.ensures.spends.honest) h1 in
    let h3 = subst (λ (t : Bool). IsTrue t) (sym c.read_tablet.ensures.calm.honest) h2 in
    let s3 = c.in_ok-tablet.ensures.settled h2 (c.in_ok-settle_areas.ensures.synced 0 (omega arith)) (c.in_ok-settle_areas.ensures.synced 1 (omega arith)) in
    let settled = settled_still c.deref.result.now v3 v4 c.in_ok-tablet.tablet.journal.log.area c.in_ok-tablet.tablet.journal.log.end s3.0 c.keep_files.ensures.honest c.keep_files.ensures.moments s3.1 in
    let h4 = subst (λ (t : Bool). IsTrue t) (sym c.keep_files.ensures.honest) h3 in
    opened_so c.in_ok-tablet.tablet.replayed c.in_ok-tablet.tablet.files.index.map (segments_of g.S.Reader.SealedReader.view c.in_ok-tablet.tablet.files.segments.items) c.deref.result.now c.in_ok-tablet.tablet.journal v3 v4 (c.deref.ensures.value ∙ c.in_ok-tablet.ensures.numbers) c.in_ok-tablet.ensures.has live_are_moved codes_find_rows b image m.0 (mid_like v0 v1 v2 p image told)
    (c.read_tablet.ensures.calm.seen ∙ m.1) c.in-Ok.ensures.forgot h4 c.keep_files.ensures.moments (λ a lt. synced_calm a v2 v3 c.read_tablet.ensures.calm (c.in_ok-settle_areas.ensures.synced a lt)) c.in_ok-tablet.ensures.replayed.0 (λ i seen. c.in_ok-tablet.ensures.replayed.1.1.1 i (sym c.read_tablet.ensures.calm.seen ∙ seen)) c.in_ok-tablet.ensures.replayed.1.0.epoch (s3.0, settled) s stands read

pub keep_files-requires-clause-rising : goal.keep_files-requires-clause-rising
keep_files-requires-clause-rising g c = rises_each c.deref.result.now (subst Rises (sym (c.deref.ensures.value ∙ c.in_ok-tablet.ensures.numbers)) c.in_ok-tablet.ensures.has.rise)

pub returns-in_err-tablet-clause-damaged : goal.returns-in_err-tablet-clause-damaged
returns-in_err-tablet-clause-damaged g c = let r = err_from_is_err_and c.from_residual-in_err-tablet.result c.from_residual-in_err-tablet.ensures.1 in
    rw (r.1, r.2) (λ d is before told.
    let v0 = g.S.Store.view c.args.store.now in let v1 = g.S.Store.view c.room.new.self in let v2 = g.S.Store.view c.settle_areas.new.store in let v3 = g.S.Store.view c.read_tablet.new.store in
    let p : IsSettledFrom v0 v1 v2 = record { calm = c.room.ensures.calm; tells = c.settle_areas.ensures.spends.tells; seen = c.in_ok-settle_areas.ensures.seen; like = c.in_ok-settle_areas.ensures.like; moments = c.settle_areas.ensures.any_moment } in
    let m = mid v0 v1 v2 p before told in
    let blanks = settled_blanks v0 v1 v2 p before told in
    damage_back before m.0 d blanks (c.in_err-tablet.ensures.damaged d is m.0 m.1))

pub returns-in-Err-clause-damaged : goal.returns-in-Err-clause-damaged
returns-in-Err-clause-damaged g c = λ d is before told. absurd (want_whole c.in-Err.fault d c.in-Err.ensures.want is)

pub returns-in-Ok-clause-held : goal.returns-in-Ok-clause-held
returns-in-Ok-clause-held g c = λ before told after told'.
    let v0 = g.S.Store.view c.args.store.now in let v1 = g.S.Store.view c.room.new.self in let v2 = g.S.Store.view c.settle_areas.new.store in let v3 = g.S.Store.view c.read_tablet.new.store in let v4 = g.S.Store.view c.keep_files.new.store in
    let p : IsSettledFrom v0 v1 v2 = record { calm = c.room.ensures.calm; tells = c.settle_areas.ensures.spends.tells; seen = c.in_ok-settle_areas.ensures.seen; like = c.in_ok-settle_areas.ensures.like; moments = c.settle_areas.ensures.any_moment } in
    let m = mid v0 v1 v2 p before told in
    let blanks = settled_blanks v0 v1 v2 p before told in
    let w = forgot_read c.deref.result.now v3 v4 after c.in-Ok.ensures.forgot told' in
    let same : w.0 ≡ m.0 = some_one w.0 m.0 (sym w.1.0 ∙ c.read_tablet.ensures.calm.seen ∙ m.1) in
    held_so c.in_ok-tablet.tablet.replayed (segments_of g.S.Reader.SealedReader.view c.in_ok-tablet.tablet.files.segments.items) c.deref.result.now (c.deref.ensures.value ∙ c.in_ok-tablet.ensures.numbers) c.in_ok-tablet.ensures.replayed.0 c.in_ok-tablet.ensures.replayed.1.0 c.in_ok-tablet.ensures.has before m.0 blanks (c.in_ok-tablet.ensures.replayed.1.1.1 m.0 m.1).says
    c.in_ok-tablet.tablet.files.index.map after (w.1.1 ∙ ap (with_files_of c.deref.result.now) same) (c.in_ok-tablet.ensures.there m.0 m.1)

pub returns-in_err-room-clause-still : goal.returns-in_err-room-clause-still
returns-in_err-room-clause-still g c = λ any. still_same (g.S.Store.view c.args.store.now) (g.S.Store.view c.room.new.self) c.room.ensures.calm.seen

pub returns-in_err-settle_areas-clause-still : goal.returns-in_err-settle_areas-clause-still
returns-in_err-settle_areas-clause-still g c = let r = err_from_is_err_and c.from_residual-in_err-settle_areas.result c.from_residual-in_err-settle_areas.ensures.1 in
    rw (r.1, r.2) (λ any before told after told'. elim any [
      | inl honest ↦ still_blanks before after (c.settle_areas.ensures.still (subst (λ (t : Bool). IsTrue t) (sym c.room.ensures.calm.honest) honest) before (c.room.ensures.calm.seen ∙ told) after told')
      | inr none ↦ absurd (none refl)
    ])

pub returns-in_err-tablet-clause-still : goal.returns-in_err-tablet-clause-still
returns-in_err-tablet-clause-still g c = λ any before told after told'.
    let v0 = g.S.Store.view c.args.store.now in let v1 = g.S.Store.view c.room.new.self in let v2 = g.S.Store.view c.settle_areas.new.store in let v3 = g.S.Store.view c.read_tablet.new.store in
    let p : IsSettledFrom v0 v1 v2 = record { calm = c.room.ensures.calm; tells = c.settle_areas.ensures.spends.tells; seen = c.in_ok-settle_areas.ensures.seen; like = c.in_ok-settle_areas.ensures.like; moments = c.settle_areas.ensures.any_moment } in
    still_blanks before after (p.seen before (c.room.ensures.calm.seen ∙ told) after (sym c.read_tablet.ensures.calm.seen ∙ told'))

pub returns-in-Ok-clause-still : goal.returns-in-Ok-clause-still
returns-in-Ok-clause-still g c = λ any before told after told'.
    let v0 = g.S.Store.view c.args.store.now in let v1 = g.S.Store.view c.room.new.self in let v2 = g.S.Store.view c.settle_areas.new.store in let v3 = g.S.Store.view c.read_tablet.new.store in let v4 = g.S.Store.view c.keep_files.new.store in
    let p : IsSettledFrom v0 v1 v2 = record { calm = c.room.ensures.calm; tells = c.settle_areas.ensures.spends.tells; seen = c.in_ok-settle_areas.ensures.seen; like = c.in_ok-settle_areas.ensures.like; moments = c.settle_areas.ensures.any_moment } in
    let m = mid v0 v1 v2 p before told in
    let blanks = settled_blanks v0 v1 v2 p before told in
    still_kept c.in_ok-tablet.tablet.replayed (segments_of g.S.Reader.SealedReader.view c.in_ok-tablet.tablet.files.segments.items) c.deref.result.now (c.deref.ensures.value ∙ c.in_ok-tablet.ensures.numbers) c.in_ok-tablet.ensures.replayed.0 c.in_ok-tablet.ensures.replayed.1.0 c.in_ok-tablet.ensures.has before m.0 blanks (c.in_ok-tablet.ensures.replayed.1.1.1 m.0 m.1).says
    after (c.keep_files.ensures.kept m.0 (c.read_tablet.ensures.calm.seen ∙ m.1) after told')

pub returns-in-Err-clause-still : goal.returns-in-Err-clause-still
returns-in-Err-clause-still g c = λ any before told after told'.
    let v0 = g.S.Store.view c.args.store.now in let v1 = g.S.Store.view c.room.new.self in let v2 = g.S.Store.view c.settle_areas.new.store in let v3 = g.S.Store.view c.read_tablet.new.store in let v4 = g.S.Store.view c.keep_files.new.store in
    let p : IsSettledFrom v0 v1 v2 = record { calm = c.room.ensures.calm; tells = c.settle_areas.ensures.spends.tells; seen = c.in_ok-settle_areas.ensures.seen; like = c.in_ok-settle_areas.ensures.like; moments = c.settle_areas.ensures.any_moment } in
    let m = mid v0 v1 v2 p before told in
    let blanks = settled_blanks v0 v1 v2 p before told in
    still_kept c.in_ok-tablet.tablet.replayed (segments_of g.S.Reader.SealedReader.view c.in_ok-tablet.tablet.files.segments.items) c.deref.result.now (c.deref.ensures.value ∙ c.in_ok-tablet.ensures.numbers) c.in_ok-tablet.ensures.replayed.0 c.in_ok-tablet.ensures.replayed.1.0 c.in_ok-tablet.ensures.has before m.0 blanks (c.in_ok-tablet.ensures.replayed.1.1.1 m.0 m.1).says
    after (c.keep_files.ensures.kept m.0 (c.read_tablet.ensures.calm.seen ∙ m.1) after (sym c.give_back.ensures.calm.seen ∙ told'))

pub returns-in_err-tablet-clause-unforgotten : goal.returns-in_err-tablet-clause-unforgotten
returns-in_err-tablet-clause-unforgotten g c = let r = err_from_is_err_and c.from_residual-in_err-tablet.result c.from_residual-in_err-tablet.ensures.1 in
    rw (r.1, r.2) (λ kind before told after told'.
    let v0 = g.S.Store.view c.args.store.now in let v1 = g.S.Store.view c.room.new.self in let v2 = g.S.Store.view c.settle_areas.new.store in let v3 = g.S.Store.view c.read_tablet.new.store in
    let p : IsSettledFrom v0 v1 v2 = record { calm = c.room.ensures.calm; tells = c.settle_areas.ensures.spends.tells; seen = c.in_ok-settle_areas.ensures.seen; like = c.in_ok-settle_areas.ensures.like; moments = c.settle_areas.ensures.any_moment } in
    (p.seen before (c.room.ensures.calm.seen ∙ told) after (sym c.read_tablet.ensures.calm.seen ∙ told')).files)

pub returns-in-Err-clause-unforgotten : goal.returns-in-Err-clause-unforgotten
returns-in-Err-clause-unforgotten g c = λ kind before told after told'.
    let v0 = g.S.Store.view c.args.store.now in let v1 = g.S.Store.view c.room.new.self in let v2 = g.S.Store.view c.settle_areas.new.store in let v3 = g.S.Store.view c.read_tablet.new.store in let v4 = g.S.Store.view c.keep_files.new.store in
    let p : IsSettledFrom v0 v1 v2 = record { calm = c.room.ensures.calm; tells = c.settle_areas.ensures.spends.tells; seen = c.in_ok-settle_areas.ensures.seen; like = c.in_ok-settle_areas.ensures.like; moments = c.settle_areas.ensures.any_moment } in
    let calm = c.in-Err.ensures.unforgotten kind in
    (p.seen before (c.room.ensures.calm.seen ∙ told) after (sym c.read_tablet.ensures.calm.seen ∙ sym calm.seen ∙ sym c.give_back.ensures.calm.seen ∙ told')).files

pub returns-in_err-room-clause-unforgotten : goal.returns-in_err-room-clause-unforgotten
returns-in_err-room-clause-unforgotten g c = let r = err_from_is_err_and c.from_residual.result c.from_residual.ensures.1 in
    rw (r.1, r.2) (λ kind. files_still (g.S.Store.view c.args.store.now) (g.S.Store.view c.room.new.self) c.room.ensures.calm.seen)

pub returns-in_err-room-clause-files : goal.returns-in_err-room-clause-files
returns-in_err-room-clause-files g c = λ before told after told'. (still_same (g.S.Store.view c.args.store.now) (g.S.Store.view c.room.new.self) c.room.ensures.calm.seen before told after told').files

pub returns-in_err-settle_areas-clause-files : goal.returns-in_err-settle_areas-clause-files
returns-in_err-settle_areas-clause-files g c = λ before told after told' number.
    inl (ap (λ fs. get fs number) (c.settle_areas.ensures.files before (c.room.ensures.calm.seen ∙ told) after told'))

pub returns-in_err-tablet-clause-files : goal.returns-in_err-tablet-clause-files
returns-in_err-tablet-clause-files g c = λ before told after told'.
    let v0 = g.S.Store.view c.args.store.now in let v1 = g.S.Store.view c.room.new.self in let v2 = g.S.Store.view c.settle_areas.new.store in let v3 = g.S.Store.view c.read_tablet.new.store in
    let p : IsSettledFrom v0 v1 v2 = record { calm = c.room.ensures.calm; tells = c.settle_areas.ensures.spends.tells; seen = c.in_ok-settle_areas.ensures.seen; like = c.in_ok-settle_areas.ensures.like; moments = c.settle_areas.ensures.any_moment } in
    (still_blanks before after (p.seen before (c.room.ensures.calm.seen ∙ told) after (sym c.read_tablet.ensures.calm.seen ∙ told'))).files

pub returns-in-Ok-clause-files : goal.returns-in-Ok-clause-files
returns-in-Ok-clause-files g c = λ before told after told'.
    let v0 = g.S.Store.view c.args.store.now in let v1 = g.S.Store.view c.room.new.self in let v2 = g.S.Store.view c.settle_areas.new.store in let v3 = g.S.Store.view c.read_tablet.new.store in let v4 = g.S.Store.view c.keep_files.new.store in
    let p : IsSettledFrom v0 v1 v2 = record { calm = c.room.ensures.calm; tells = c.settle_areas.ensures.spends.tells; seen = c.in_ok-settle_areas.ensures.seen; like = c.in_ok-settle_areas.ensures.like; moments = c.settle_areas.ensures.any_moment } in
    let m = mid v0 v1 v2 p before told in
    let blanks = settled_blanks v0 v1 v2 p before told in
    (still_kept c.in_ok-tablet.tablet.replayed (segments_of g.S.Reader.SealedReader.view c.in_ok-tablet.tablet.files.segments.items) c.deref.result.now (c.deref.ensures.value ∙ c.in_ok-tablet.ensures.numbers) c.in_ok-tablet.ensures.replayed.0 c.in_ok-tablet.ensures.replayed.1.0 c.in_ok-tablet.ensures.has before m.0 blanks (c.in_ok-tablet.ensures.replayed.1.1.1 m.0 m.1).says
    after (c.keep_files.ensures.kept m.0 (c.read_tablet.ensures.calm.seen ∙ m.1) after told')).files

pub returns-in-Err-clause-files : goal.returns-in-Err-clause-files
returns-in-Err-clause-files g c = λ before told after told'.
    let v0 = g.S.Store.view c.args.store.now in let v1 = g.S.Store.view c.room.new.self in let v2 = g.S.Store.view c.settle_areas.new.store in let v3 = g.S.Store.view c.read_tablet.new.store in let v4 = g.S.Store.view c.keep_files.new.store in
    let p : IsSettledFrom v0 v1 v2 = record { calm = c.room.ensures.calm; tells = c.settle_areas.ensures.spends.tells; seen = c.in_ok-settle_areas.ensures.seen; like = c.in_ok-settle_areas.ensures.like; moments = c.settle_areas.ensures.any_moment } in
    let m = mid v0 v1 v2 p before told in
    let blanks = settled_blanks v0 v1 v2 p before told in
    (still_kept c.in_ok-tablet.tablet.replayed (segments_of g.S.Reader.SealedReader.view c.in_ok-tablet.tablet.files.segments.items) c.deref.result.now (c.deref.ensures.value ∙ c.in_ok-tablet.ensures.numbers) c.in_ok-tablet.ensures.replayed.0 c.in_ok-tablet.ensures.replayed.1.0 c.in_ok-tablet.ensures.has before m.0 blanks (c.in_ok-tablet.ensures.replayed.1.1.1 m.0 m.1).says
    after (c.keep_files.ensures.kept m.0 (c.read_tablet.ensures.calm.seen ∙ m.1) after (sym c.give_back.ensures.calm.seen ∙ told'))).files

pub returns-in-Ok-clause-readers : goal.returns-in-Ok-clause-readers
returns-in-Ok-clause-readers g c = λ before told.
    let v0 = g.S.Store.view c.args.store.now in let v1 = g.S.Store.view c.room.new.self in let v2 = g.S.Store.view c.settle_areas.new.store in let v3 = g.S.Store.view c.read_tablet.new.store in
    let p : IsSettledFrom v0 v1 v2 = record { calm = c.room.ensures.calm; tells = c.settle_areas.ensures.spends.tells; seen = c.in_ok-settle_areas.ensures.seen; like = c.in_ok-settle_areas.ensures.like; moments = c.settle_areas.ensures.any_moment } in
    let m = mid v0 v1 v2 p before told in
    let blanks = settled_blanks v0 v1 v2 p before told in
    readers_so c.in_ok-tablet.tablet.replayed c.in_ok-tablet.tablet.files.index.map (segments_of g.S.Reader.SealedReader.view c.in_ok-tablet.tablet.files.segments.items) before m.0 blanks c.in_ok-tablet.ensures.has
    (c.in_ok-tablet.ensures.bytes m.0 m.1) (c.in_ok-tablet.ensures.indexed m.0 m.1)

pub returns-in_err-room-clause-settled : goal.returns-in_err-room-clause-settled
returns-in_err-room-clause-settled g c = λ is honest image told s b stands. inl c.room.ensures.calm

pub returns-in_err-settle_areas-clause-settled : goal.returns-in_err-settle_areas-clause-settled
returns-in_err-settle_areas-clause-settled g c = let r = err_from_is_err_and c.from_residual-in_err-settle_areas.result c.from_residual-in_err-settle_areas.ensures.1 in
    rw (r.1, r.2) (λ is. absurd (store_or_memory is))

pub returns-in_err-tablet-clause-settled : goal.returns-in_err-tablet-clause-settled
returns-in_err-tablet-clause-settled g c = λ is honest image told s b stands.
    let v0 = g.S.Store.view c.args.store.now in let v1 = g.S.Store.view c.room.new.self in let v2 = g.S.Store.view c.settle_areas.new.store in let v3 = g.S.Store.view c.read_tablet.new.store in
    let p : IsSettledFrom v0 v1 v2 = record { calm = c.room.ensures.calm; tells = c.settle_areas.ensures.spends.tells; seen = c.in_ok-settle_areas.ensures.seen; like = c.in_ok-settle_areas.ensures.like; moments = c.settle_areas.ensures.any_moment } in
    inr (λ left may. like_stands s b image left stands (calm_each (IsLike image) v2 v3 c.read_tablet.ensures.calm (each_like v0 v1 v2 p image told honest) left may))

pub returns-in-Ok-clause-settled : goal.returns-in-Ok-clause-settled
returns-in-Ok-clause-settled g c = λ is. absurd (no_err _ fault.Memory is)

pub returns-in-Err-clause-settled : goal.returns-in-Err-clause-settled
returns-in-Err-clause-settled g c = λ is honest image told s b stands.
    let v0 = g.S.Store.view c.args.store.now in let v1 = g.S.Store.view c.room.new.self in let v2 = g.S.Store.view c.settle_areas.new.store in let v3 = g.S.Store.view c.read_tablet.new.store in let v4 = g.S.Store.view c.keep_files.new.store in
    let p : IsSettledFrom v0 v1 v2 = record { calm = c.room.ensures.calm; tells = c.settle_areas.ensures.spends.tells; seen = c.in_ok-settle_areas.ensures.seen; like = c.in_ok-settle_areas.ensures.like; moments = c.settle_areas.ensures.any_moment } in
    let v5 = g.S.Store.view c.give_back.new.store in
    let calm = calm_then v3 v4 v5 (c.in-Err.ensures.unforgotten (memory_keeps c.in-Err.fault is)) c.give_back.ensures.calm in
    inr (λ left may. like_stands s b image left stands (calm_each (IsLike image) v2 v5 (calm_then v2 v3 v5 c.read_tablet.ensures.calm calm) (each_like v0 v1 v2 p image told honest) left may))

pub returns-in_err-room-clause-tells : goal.returns-in_err-room-clause-tells
returns-in_err-room-clause-tells g c = ap is_some c.room.ensures.calm.seen

pub returns-in_err-settle_areas-clause-tells : goal.returns-in_err-settle_areas-clause-tells
returns-in_err-settle_areas-clause-tells g c = c.settle_areas.ensures.spends.tells ∙ ap is_some c.room.ensures.calm.seen

pub returns-in_err-tablet-clause-tells : goal.returns-in_err-tablet-clause-tells
returns-in_err-tablet-clause-tells g c = ap is_some c.read_tablet.ensures.calm.seen ∙ c.settle_areas.ensures.spends.tells ∙ ap is_some c.room.ensures.calm.seen

pub returns-in-Ok-clause-tells : goal.returns-in-Ok-clause-tells
returns-in-Ok-clause-tells g c = c.keep_files.ensures.tells ∙ ap is_some c.read_tablet.ensures.calm.seen ∙ c.settle_areas.ensures.spends.tells ∙ ap is_some c.room.ensures.calm.seen

pub returns-in-Err-clause-tells : goal.returns-in-Err-clause-tells
returns-in-Err-clause-tells g c =
    ap is_some c.give_back.ensures.calm.seen ∙ c.keep_files.ensures.tells ∙ ap is_some c.read_tablet.ensures.calm.seen ∙ c.settle_areas.ensures.spends.tells ∙ ap is_some c.room.ensures.calm.seen

pub returns-in_err-room-clause-damaged : goal.returns-in_err-room-clause-damaged
returns-in_err-room-clause-damaged g c = let r = err_from_is_err_and c.from_residual.result c.from_residual.ensures.1 in
    rw (r.1, r.2) (λ d is. absurd (memory_whole d is))

pub returns-in_err-settle_areas-clause-damaged : goal.returns-in_err-settle_areas-clause-damaged
returns-in_err-settle_areas-clause-damaged g c = let r = err_from_is_err_and c.from_residual-in_err-settle_areas.result c.from_residual-in_err-settle_areas.ensures.1 in
    rw (r.1, r.2) (λ d is. absurd (store_whole d is))

pub returns-in_err-settle_areas-clause-unforgotten : goal.returns-in_err-settle_areas-clause-unforgotten
returns-in_err-settle_areas-clause-unforgotten g c = let r = err_from_is_err_and c.from_residual-in_err-settle_areas.result c.from_residual-in_err-settle_areas.ensures.1 in
    rw (r.1, r.2) (λ kind. absurd kind)
