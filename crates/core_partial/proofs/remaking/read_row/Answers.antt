use Rattle.std.proofs.Common.{◌≡◌, ◌∙◌, ◌+◌, ◌-◌, ◌^◌, ◌<◌, ◌≤◌, min, ap, sym, subst, refl, Some, is_some, arith}
use Rattle.std.specs.FinMap.{get}
use Rattle.std.proofs.lemmas.Result.{IfErr-weaker, IfOk-weaker}
use Rattle.index_level0.specs.declared.place.Place.{Place}
use Rattle.pk_values.specs.Schemas.{Layout}
use Rattle.segment_read.specs.Reads.{KnowsFooter, OnDamage}
use Rattle.tablet_state.specs.Moving.{HasAt, total_reads}
use Rattle.tablet_state.specs.Seen.{segment_seen}
use Rattle.tablet_state.specs.State.{SegmentView, faults_of}
use Rattle.core_partial.specs.Moving.{IsBlockOf, IsRowAt}
use Rattle.core_partial.proofs.LendFacts.{cause_back, has_lends, lends_then, rests_lends, rests_reads}
use Rattle.core_partial.proofs.ReadFacts.{damage_there, no_damage, on_damage, reading_failed, reading_well, row_at_place, row_of_book, row_within}
use Rattle.core_partial.proofs.remaking.read_row.Goals as goal

pub segment-requires : goal.segment-requires
segment-requires g c = record { there = ap is_some c.requires.there.there }

pub row_at-read-requires : goal.row_at-read-requires
row_at-read-requires g c =
    let view = g.S.Reader.SealedReader.view in
    let seg = c.in_ok-segment.segment in
    record {
      footer = subst (λ (s : Layout). KnowsFooter s (view seg.reader) seg.footer) (sym c.requires.schema) c.in_ok-segment.ensures.known;
      there = row_within c.args.state.now.segments c.args.place.now (segment_seen view seg) c.requires.there c.in_ok-segment.ensures.copy;
    }

pub returns-clause-read : goal.returns-clause-read
returns-clause-read g c =
    let view = g.S.Reader.SealedReader.view in
    let seg : SegmentView = segment_seen view c.in_ok-segment.segment in
    IfOk-weaker c.row_at-read.result _ _ (λ row h. row_at_place c.args.schema.now c.args.state.now.segments c.args.place.now seg row c.in_ok-segment.ensures.copy h) c.row_at-read.ensures.row

pub returns-clause-row : goal.returns-clause-row
returns-clause-row g c =
    let view = g.S.Reader.SealedReader.view in
    let seg : SegmentView = segment_seen view c.in_ok-segment.segment in
    IfOk-weaker c.row_at-read.result _ _ (λ row h b k has open_ at. row_of_book c.args.schema.now seg c.args.place.now.row row (get b.current k)
    (subst (λ (s : Layout). HasAt s seg c.args.place.now.row (get b.current k)) (sym c.requires.schema) (c.in_ok-segment.ensures.rows b k c.args.place.now has open_ at refl)) h) c.row_at-read.ensures.of_segment

pub returns-clause-damaged : goal.returns-clause-damaged
returns-clause-damaged g c =
    let view = g.S.Reader.SealedReader.view in
    let seg : SegmentView = segment_seen view c.in_ok-segment.segment in
    IfErr-weaker c.row_at-read.result _ _ (λ e h. on_damage e _ _ (λ d k. damage_there c.args.schema.now c.args.state.now.segments c.args.place.now seg d c.in_ok-segment.ensures.copy k) h) c.row_at-read.ensures.damaged

pub returns-clause-intact : goal.returns-clause-intact
returns-clause-intact g c =
    let view = g.S.Reader.SealedReader.view in
    let seg : SegmentView = segment_seen view c.in_ok-segment.segment in
    IfErr-weaker c.row_at-read.result _ _ (λ e h. on_damage e _ _ (λ d none b k has open_ at. no_damage c.args.schema.now seg c.args.place.now.row (get b.current k)
    (subst (λ (s : Layout). HasAt s seg c.args.place.now.row (get b.current k)) (sym c.requires.schema) (c.in_ok-segment.ensures.rows b k c.args.place.now has open_ at refl)) none) h) c.row_at-read.ensures.intact

pub returns-clause-cause : goal.returns-clause-cause
returns-clause-cause g c =
    let view = g.S.Reader.SealedReader.view in
    let old = view c.in_ok-segment.segment.reader in
    let new = view c.row_at-read.new.segment.reader in
    let most : faults_of g.S.Store.view c.args.state.now ≤ 2 ^ 64 - 1 = omega arith in
    let back = c.take_back.ensures.faults in
    let before = c.segment.ensures.faults in
    let none = c.in_ok-segment.ensures.copy.new.faults in
    cause_back (faults_of g.S.Store.view c.args.state.now) (faults_of g.S.Store.view c.take_back.new.self) new.faults c.row_at-read.result most (omega (arith, back, before))
    (λ good. reading_well c.row_at-read.result old new none c.row_at-read.ensures.reading good) (λ is. reading_failed c.row_at-read.result old new none c.row_at-read.ensures.reading is)

pub returns-clause-reads : goal.returns-clause-reads
returns-clause-reads g c =
    let rests = rests_reads g.S.Store.view c.segment.new.self c.take_back.new.self c.take_back.ensures.rests in
    let most = c.segment.ensures.reads in
    omega (arith, rests, most)

pub returns-clause-lends : goal.returns-clause-lends
returns-clause-lends g c =
    lends_then g.S.Store.view c.args.state.now c.segment.new.self c.take_back.new.self c.segment.ensures.lends
    (rests_lends g.S.Store.view c.segment.new.self c.take_back.new.self c.take_back.ensures.rests)
