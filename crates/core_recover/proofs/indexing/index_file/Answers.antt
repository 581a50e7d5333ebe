use Rattle.std.proofs.Common.{◌≡◌, ◌∙◌, ◌==◌, ℕ, ◌<◌, List, [], ◌∷◌, ap, sym, subst, length, arith}
use Rattle.std.specs.List.{list_any}
use Rattle.std.proofs.lemmas.Result.{err_from_is_err_and}
use Rattle.segment_read.specs.Reads.{OnDamage}
use Rattle.rowsets.specs.Marks.{Rises}
use Rattle.rowsets.specs.Indexing.{put_all}
use Rattle.tablet_state.specs.Seen.{segments_of}
use Rattle.core_recover.specs.Damages.{IsLiveDamage}
use Rattle.core_recover.specs.Indexing.{HasNoIndex}
use Rattle.core_recover.proofs.DamageFacts.{bad_block, missing_live}
use Rattle.core_recover.proofs.FindingFacts.{attached_at, in_place, missing, none_indexed, one_indexed, place_within, set_cause, set_same}
use Rattle.core_recover.proofs.IndexingFacts.{cause_memory, cause_ok, cause_over}
use Rattle.core_recover.proofs.indexing.index_file.Goals as goal

pub returns-in-None-clause-intact : goal.returns-in-None-clause-intact
returns-in-None-clause-intact g c =
    subst (λ e. OnDamage e (λ damaged. HasNoIndex c.args.schema.now (c.args.file.now ∷ []) (segments_of g.R.SealedReader.view c.args.segments.now.items))) (sym c.absent.ensures)
    (missing c.args.schema.now (segments_of g.R.SealedReader.view c.args.segments.now.items) c.args.file.now
    (sym (ap (λ (ns : List ℕ). list_any (λ m. m == c.args.file.now.file) ns) c.requires.numbers) ∙ sym (ap (λ (n : ℕ). list_any (λ m. m == n) c.args.numbers.now) c.number.ensures) ∙ c.in-None.ensures.none))

pub index_mut-requires : goal.index_mut-requires
index_mut-requires g c =
    let w = place_within g.R.SealedReader.view c.args.segments.now.items c.args.numbers.now c.in-Some.place c.number.result c.requires.numbers c.in-Some.ensures.there in
    omega (arith, w, c.args.segments.now.ok.0)

pub live_keys-requires : goal.live_keys-requires
live_keys-requires g c =
    let at = in_place g.R.SealedReader.view c.args.segments.now.items c.args.numbers.now c.in-Some.place c.number.result c.args.file.now.file c.index_mut.result.now c.requires.numbers c.number.ensures c.in-Some.ensures.there c.index_mut.ensures.value in
    (attached_at g.R.SealedReader.view c.args.schema.now c.args.segments.now.items c.in-Some.place c.index_mut.result.now at.0 c.requires.attached).known

pub returns-in_err-keys-clause-intact : goal.returns-in_err-keys-clause-intact
returns-in_err-keys-clause-intact g c =
    let at = in_place g.R.SealedReader.view c.args.segments.now.items c.args.numbers.now c.in-Some.place c.number.result c.args.file.now.file c.index_mut.result.now c.requires.numbers c.number.ensures c.in-Some.ensures.there c.index_mut.ensures.value in
    let r = err_from_is_err_and c.from_residual.result c.from_residual.ensures.1 in
    rw (r.1, r.2) (none_indexed g.R.SealedReader.view c.args.schema.now c.args.segments.now.items c.in-Some.place c.index_mut.result.now c.args.file.now c.dead.result.now c.in_err-keys.field-0.0 (subst Rises c.requires.numbers c.requires.rise) at.0 at.1 c.dead.ensures c.in_err-keys.ensures.intact)

pub returns-in_err-keys-clause-same : goal.returns-in_err-keys-clause-same
returns-in_err-keys-clause-same g c =
    let at = in_place g.R.SealedReader.view c.args.segments.now.items c.args.numbers.now c.in-Some.place c.number.result c.args.file.now.file c.index_mut.result.now c.requires.numbers c.number.ensures c.in-Some.ensures.there c.index_mut.ensures.value in
    set_same g.R.SealedReader.view c.args.segments.now.items c.in-Some.place c.index_mut.result.now c.live_keys.new.segment at.0 c.live_keys.ensures.number c.live_keys.ensures.kept c.live_keys.ensures.same.bytes

pub returns-in_err-keys-clause-cause : goal.returns-in_err-keys-clause-cause
returns-in_err-keys-clause-cause g c =
    let at = in_place g.R.SealedReader.view c.args.segments.now.items c.args.numbers.now c.in-Some.place c.number.result c.args.file.now.file c.index_mut.result.now c.requires.numbers c.number.ensures c.in-Some.ensures.there c.index_mut.ensures.value in
    let r = err_from_is_err_and c.from_residual.result c.from_residual.ensures.1 in
    rw (r.1, r.2) (cause_over _ _ c.in_err-keys.field-0.0 (set_cause g.R.SealedReader.view c.args.segments.now.items c.in-Some.place c.index_mut.result.now c.live_keys.new.segment _ at.0 c.in_err-keys.ensures.cause))

pub returns-in_err-reserve-clause-same : goal.returns-in_err-reserve-clause-same
returns-in_err-reserve-clause-same g c =
    let at = in_place g.R.SealedReader.view c.args.segments.now.items c.args.numbers.now c.in-Some.place c.number.result c.args.file.now.file c.index_mut.result.now c.requires.numbers c.number.ensures c.in-Some.ensures.there c.index_mut.ensures.value in
    set_same g.R.SealedReader.view c.args.segments.now.items c.in-Some.place c.index_mut.result.now c.live_keys.new.segment at.0 c.live_keys.ensures.number c.live_keys.ensures.kept c.live_keys.ensures.same.bytes

pub returns-in_err-reserve-clause-cause : goal.returns-in_err-reserve-clause-cause
returns-in_err-reserve-clause-cause g c =
    let at = in_place g.R.SealedReader.view c.args.segments.now.items c.args.numbers.now c.in-Some.place c.number.result c.args.file.now.file c.index_mut.result.now c.requires.numbers c.number.ensures c.in-Some.ensures.there c.index_mut.ensures.value in
    let r = err_from_is_err_and c.from_residual-in_err-reserve.result c.from_residual-in_err-reserve.ensures.1 in
    rw (r.1, r.2) (cause_memory _ _ c.in_ok-keys.keys (set_cause g.R.SealedReader.view c.args.segments.now.items c.in-Some.place c.index_mut.result.now c.live_keys.new.segment _ at.0 c.in_ok-keys.ensures.cause))

pub returns-clause-index : goal.returns-clause-index
returns-clause-index g c =
    let at = in_place g.R.SealedReader.view c.args.segments.now.items c.args.numbers.now c.in-Some.place c.number.result c.args.file.now.file c.index_mut.result.now c.requires.numbers c.number.ensures c.in-Some.ensures.there c.index_mut.ensures.value in
    one_indexed g.R.SealedReader.view c.args.schema.now c.args.segments.now.items c.in-Some.place c.index_mut.result.now c.args.file.now c.dead.result.now c.in_ok-keys.keys.items c.args.index.now.map c.put_all.new.self.map (subst Rises c.requires.numbers c.requires.rise) at.0 at.1 c.dead.ensures c.in_ok-keys.ensures.keys (c.put_all.ensures ∙ ap (put_all c.in_ok-keys.keys.items) c.reserve.ensures.map)

pub returns-clause-same : goal.returns-clause-same
returns-clause-same g c =
    let at = in_place g.R.SealedReader.view c.args.segments.now.items c.args.numbers.now c.in-Some.place c.number.result c.args.file.now.file c.index_mut.result.now c.requires.numbers c.number.ensures c.in-Some.ensures.there c.index_mut.ensures.value in
    set_same g.R.SealedReader.view c.args.segments.now.items c.in-Some.place c.index_mut.result.now c.live_keys.new.segment at.0 c.live_keys.ensures.number c.live_keys.ensures.kept c.live_keys.ensures.same.bytes

pub returns-clause-cause : goal.returns-clause-cause
returns-clause-cause g c =
    let at = in_place g.R.SealedReader.view c.args.segments.now.items c.args.numbers.now c.in-Some.place c.number.result c.args.file.now.file c.index_mut.result.now c.requires.numbers c.number.ensures c.in-Some.ensures.there c.index_mut.ensures.value in
    cause_ok _ _ c.in_ok-keys.keys _ (set_cause g.R.SealedReader.view c.args.segments.now.items c.in-Some.place c.index_mut.result.now c.live_keys.new.segment _ at.0 c.in_ok-keys.ensures.cause)

pub returns-in-None-clause-damaged : goal.returns-in-None-clause-damaged
returns-in-None-clause-damaged g c =
    subst (λ e. OnDamage e (IsLiveDamage c.args.schema.now (c.args.file.now ∷ []) (segments_of g.R.SealedReader.view c.args.segments.now.items))) (sym c.absent.ensures)
    (missing_live c.args.schema.now (segments_of g.R.SealedReader.view c.args.segments.now.items) c.args.file.now _
    (sym (ap (λ (ns : List ℕ). list_any (λ m. m == c.args.file.now.file) ns) c.requires.numbers) ∙ sym (ap (λ (n : ℕ). list_any (λ m. m == n) c.args.numbers.now) c.number.ensures) ∙ c.in-None.ensures.none))

pub returns-in_err-keys-clause-damaged : goal.returns-in_err-keys-clause-damaged
returns-in_err-keys-clause-damaged g c =
    let at = in_place g.R.SealedReader.view c.args.segments.now.items c.args.numbers.now c.in-Some.place c.number.result c.args.file.now.file c.index_mut.result.now c.requires.numbers c.number.ensures c.in-Some.ensures.there c.index_mut.ensures.value in
    let r = err_from_is_err_and c.from_residual.result c.from_residual.ensures.1 in
    rw (r.1, r.2) (bad_block g.R.SealedReader.view c.args.schema.now c.args.segments.now.items c.in-Some.place c.index_mut.result.now c.args.file.now c.dead.result.now c.in_err-keys.field-0.0 (subst Rises c.requires.numbers c.requires.rise) at.0 at.1 c.dead.ensures c.in_err-keys.ensures.damaged)
