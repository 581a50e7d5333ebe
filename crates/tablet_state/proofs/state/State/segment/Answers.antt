use Rattle.std.proofs.Common.{◌≡◌, ◌+◌, ◌-◌, ◌^◌, ◌≤◌, min, List, IsSome, OnErr, OnOk, ap, refl, subst, sym}
use Rattle.std.proofs.lemmas.Result.{IfOk-weaker}
use Rattle.dev_traits.proofs.Moments.{calm_none}
use Rattle.tablet_state.specs.Moving.{IsCopyOf, read_once, total_reads}
use Rattle.tablet_state.specs.Seen.{segment_seen, segments_of}
use Rattle.tablet_state.specs.State.{HasOwn, SegmentView, Shown, faults_of, reader_faults, segment_of}
use Rattle.tablet_state.proofs.Calming.{HasStill, has_calm}
use Rattle.tablet_state.proofs.Lending.{LendsFrom, keeps_lent, lent_faults, lent_read}
use Rattle.tablet_state.proofs.MovingFacts.{copy_known, copy_rows}
use Rattle.tablet_state.proofs.state.State.segment.Goals as goal

pub copy_of-requires-clause-there : goal.copy_of-requires-clause-there
copy_of-requires-clause-there g c = subst (λ (x : Shown g.row.S.Denot). IsSome (segment_of x.segments c.args.file)) (sym c.self.view_is) c.requires.there

pub invariant_of-self : goal.invariant_of-self
invariant_of-self g c =
    keeps_lent (segments_of g.S.Reader.SealedReader.view c.self.inside.segments.items) (segments_of g.S.Reader.SealedReader.view c.copy_of.new.segments.items) c.copy_of.ensures.same
    (g.S.Store.view c.self.inside.store) _ _ _ c.self.inside.closed c.self.invariant

pub returns-clause-copy : goal.returns-clause-copy
returns-clause-copy g c =
    let read = g.S.Reader.SealedReader.view in
    let segs : segments_of read c.self.inside.segments.items ≡ c.args.self.now.segments = ap (λ (x : Shown g.row.S.Denot). x.segments) c.self.view_is in
    IfOk-weaker c.copy_of.result _ _ (λ copy is. subst (λ (gs : List SegmentView). IsCopyOf gs c.args.file (segment_seen read copy)) segs is) c.copy_of.ensures.copy

pub returns-clause-known : goal.returns-clause-known
returns-clause-known g c =
    let read = g.S.Reader.SealedReader.view in
    let old = c.args.self.now in
    let own : HasOwn old.contents old.segments = subst (λ (x : Shown g.row.S.Denot). HasOwn x.contents x.segments) c.self.view_is c.self.invariant.own in
    let segs : segments_of read c.self.inside.segments.items ≡ old.segments = ap (λ (x : Shown g.row.S.Denot). x.segments) c.self.view_is in
    IfOk-weaker c.copy_of.result _ _ (λ copy is. copy_known old.contents.schema old.segments c.args.file (segment_seen read copy) own.attached
    (subst (λ (gs : List SegmentView). IsCopyOf gs c.args.file (segment_seen read copy)) segs is)) c.copy_of.ensures.copy

pub returns-clause-rows : goal.returns-clause-rows
returns-clause-rows g c =
    let read = g.S.Reader.SealedReader.view in
    let old = c.args.self.now in
    let segs : segments_of read c.self.inside.segments.items ≡ old.segments = ap (λ (x : Shown g.row.S.Denot). x.segments) c.self.view_is in
    IfOk-weaker c.copy_of.result _ _ (λ copy is b k p h open_ at file. copy_rows g.S.Store.view old g.met.S.Store.honest_reads b k p (segment_seen read copy)
    (subst (λ n. IsCopyOf old.segments n (segment_seen read copy)) (sym file) (subst (λ (gs : List SegmentView). IsCopyOf gs c.args.file (segment_seen read copy)) segs is)) h open_ at) c.copy_of.ensures.copy

pub returns-clause-reads : goal.returns-clause-reads
returns-clause-reads g c =
    let read = g.S.Reader.SealedReader.view in
    let new : List SegmentView = segments_of read c.copy_of.new.segments.items in
    subst (λ (x : Shown g.row.S.Denot). total_reads new ≤ total_reads x.segments + 1) c.self.view_is c.copy_of.ensures.reads

pub returns-clause-counted : goal.returns-clause-counted
returns-clause-counted g c =
    let read = g.S.Reader.SealedReader.view in
    let new : List SegmentView = segments_of read c.copy_of.new.segments.items in
    subst (λ (x : Shown g.row.S.Denot). OnOk c.copy_of.result (new ≡ read_once c.args.file x.segments)) c.self.view_is c.copy_of.ensures.counted

pub returns-clause-uncounted : goal.returns-clause-uncounted
returns-clause-uncounted g c =
    let read = g.S.Reader.SealedReader.view in
    let new : List SegmentView = segments_of read c.copy_of.new.segments.items in
    subst (λ (x : Shown g.row.S.Denot). OnErr c.copy_of.result (new ≡ x.segments)) c.self.view_is c.copy_of.ensures.uncounted

pub returns-clause-lends : goal.returns-clause-lends
returns-clause-lends g c =
    subst (LendsFrom g.S.Store.view _) c.self.view_is
    (record { calm = calm_none (g.S.Store.view c.self.inside.store); area = refl; end = refl; contents = refl; segments = c.copy_of.ensures.same; closed = refl })

pub returns-clause-faults : goal.returns-clause-faults
returns-clause-faults g c =
    let view = g.S.Store.view in
    let read = g.S.Reader.SealedReader.view in
    let new : List SegmentView = segments_of read c.copy_of.new.segments.items in
    let base = (view c.self.inside.store).faults + (g.S.Maker.FileMaker.view c.self.inside.maker).faults in
    subst (λ (x : Shown g.row.S.Denot). min (base + reader_faults new) (2 ^ 64 - 1) ≡ faults_of view x) c.self.view_is
    (ap (λ n. min (base + n) (2 ^ 64 - 1)) (lent_faults (segments_of read c.self.inside.segments.items) new c.copy_of.ensures.same))

pub returns-clause-has : goal.returns-clause-has
returns-clause-has g c b =
    subst (HasStill g.S.Store.view b _) c.self.view_is
    (has_calm g.S.Store.view _ _ b (calm_none (g.S.Store.view c.self.inside.store)) refl refl refl refl
    (λ stored read. lent_read (segments_of g.S.Reader.SealedReader.view c.self.inside.segments.items) (segments_of g.S.Reader.SealedReader.view c.copy_of.new.segments.items) c.copy_of.ensures.same _ stored _ read))
