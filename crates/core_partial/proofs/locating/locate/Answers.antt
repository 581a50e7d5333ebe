use Rattle.std.proofs.Common.{◌≡◌, ◌∙◌, ap, sym, subst, Some, IfSome, List}
use Rattle.pk_values.specs.Schemas.{Layout}
use Rattle.pk_model.specs.Books.{rows_at}
use Rattle.pk_model.specs.Tables.{Rows}
use Rattle.pk_model.specs.declared.calls.Load.{Load}
use Rattle.pk_model.specs.declared.calls.Reply.TheVariants as reply
use Rattle.pk_model.specs.declared.calls.Want.TheVariants.{Latest}
use Rattle.rowsets.specs.Indexing.{CodeMove}
use Rattle.journal_form.specs.Versions.{files_of}
use Rattle.snapshot_scan.specs.Snapshots.{IsSnapshotOf, SnapshotView}
use Rattle.tablet_state.specs.Contents.{Contents, current_number}
use Rattle.tablet_state.specs.Snapshots.{ArePartsOf, Lends, rowsets_at}
use Rattle.core_publish.proofs.OpeningFacts.{opening_steps}
use Rattle.core_partial.specs.Found.{AreKeysOf, AreStored, FoundView, codes_of}
use Rattle.core_partial.proofs.FoundFacts.{found-of}
use Rattle.core_partial.proofs.LendFacts.{has_lends, lends_then, rests_lends}
use Rattle.core_partial.proofs.LocateFacts.{current_parts, memory_latest, opened_latest, some_of}
use Rattle.core_partial.proofs.locating.locate.Goals as goal

pub returns-in-Ok-clause-parts : goal.returns-in-Ok-clause-parts
returns-in-Ok-clause-parts g c =
    let view = g.S.Store.view in
    let st = c.args.state.now in
    let held : Contents = st.contents in
    let mid = c.open_version-reply.new.state in
    let r = c.open_version-reply.result in
    let ens = c.open_version-reply.ensures in
    let snap : SnapshotView = c.in-Some.snapshot in
    let opened : r.0 ≡ reply.Opened snap.version = some_of r.1 snap (λ (s : SnapshotView). r.0 ≡ reply.Opened s.version) c.in-Some.is ens.opened in
    let latest = opened_latest st.closed held r.0 snap.version ens.answer opened in
    let parts : ArePartsOf st.segments (files_of held.current) snap.parts =
    current_parts held st.segments snap.version snap.parts latest.1
    (some_of r.1 snap (λ (s : SnapshotView). IfSome (rowsets_at held s.version) (λ rowsets. ArePartsOf st.segments (files_of rowsets) s.parts)) c.in-Some.is ens.parts) in
    let same : c.of.result.snapshot ≡ snap = c.of.ensures.snapshot in
    let are : ArePartsOf st.segments (files_of held.current) c.of.result.snapshot.parts =
    subst (λ (s : SnapshotView). ArePartsOf st.segments (files_of held.current) s.parts) (sym same) parts in
    are

pub returns-in-Ok-clause-stands : goal.returns-in-Ok-clause-stands
returns-in-Ok-clause-stands g c b h m rows =
    let view = g.S.Store.view in
    let st = c.args.state.now in
    let held : Contents = st.contents in
    let mid = c.open_version-reply.new.state in
    let r = c.open_version-reply.result in
    let ens = c.open_version-reply.ensures in
    let snap : SnapshotView = c.in-Some.snapshot in
    let opened : r.0 ≡ reply.Opened snap.version = some_of r.1 snap (λ (s : SnapshotView). r.0 ≡ reply.Opened s.version) c.in-Some.is ens.opened in
    let latest = opened_latest st.closed held r.0 snap.version ens.answer opened in
    let parts : ArePartsOf st.segments (files_of held.current) snap.parts =
    current_parts held st.segments snap.version snap.parts latest.1
    (some_of r.1 snap (λ (s : SnapshotView). IfSome (rowsets_at held s.version) (λ rowsets. ArePartsOf st.segments (files_of rowsets) s.parts)) c.in-Some.is ens.parts) in
    let same : c.of.result.snapshot ≡ snap = c.of.ensures.snapshot in
    let are : ArePartsOf st.segments (files_of held.current) c.of.result.snapshot.parts =
    subst (λ (s : SnapshotView). ArePartsOf st.segments (files_of held.current) s.parts) (sym same) parts in
    let f : FoundView = c.of.result in
    let schema : f.snapshot.schema ≡ held.schema =
    ap (λ (s : SnapshotView). s.schema) same ∙ some_of r.1 snap (λ (s : SnapshotView). s.schema ≡ held.schema) c.in-Some.is ens.schema in
    let current : f.snapshot.version ≡ current_number held = ap (λ (s : SnapshotView). s.version) same ∙ latest.1 in
    let rows_there : rows_at b snap.version ≡ Some m = subst (λ (s : SnapshotView). rows_at b s.version ≡ Some m) same rows in
    let is : IsSnapshotOf f.snapshot m =
    subst (λ (s : SnapshotView). IsSnapshotOf s m) (sym same)
    (some_of r.1 snap (λ (s : SnapshotView). (n : Rows) → rows_at b s.version ≡ Some n → IsSnapshotOf s n) c.in-Some.is (ens.stands b h) m rows_there) in
    let keys : AreKeysOf held.schema f.load (codes_of f.located) =
    subst (λ (l : Load). AreKeysOf held.schema l (codes_of f.located)) (sym c.of.ensures.load)
    (subst (λ (es : List CodeMove). AreKeysOf held.schema c.args.load.now (codes_of es)) (sym c.of.ensures.located)
    (subst (λ (x : Contents). AreKeysOf x.schema c.args.load.now (codes_of c.in-Ok.entries.items)) ens.contents c.in-Ok.ensures.keys)) in
    let kept : AreStored held.codes f.located =
    subst (AreStored held.codes) (sym c.of.ensures.located) (subst (λ (x : Contents). AreStored x.codes c.in-Ok.entries.items) ens.contents c.in-Ok.ensures.stored) in
    found-of view st g.met.S.Store.honest_reads b h latest.0 f m schema current rows is are keys kept

pub returns-in-Err-clause-turn : goal.returns-in-Err-clause-turn
returns-in-Err-clause-turn g c b seq h =
    let view = g.S.Store.view in
    let st = c.args.state.now in
    let held : Contents = st.contents in
    let mid = c.open_version-reply.new.state in
    let r = c.open_version-reply.result in
    let ens = c.open_version-reply.ensures in
    let snap : SnapshotView = c.in-Some.snapshot in
    let opened : r.0 ≡ reply.Opened snap.version = some_of r.1 snap (λ (s : SnapshotView). r.0 ≡ reply.Opened s.version) c.in-Some.is ens.opened in
    let latest = opened_latest st.closed held r.0 snap.version ens.answer opened in
    opening_steps view st b h c.give_back_snapshot.new.self seq Latest reply.Memory (c.give_back_snapshot.ensures.has b (has_lends view st mid b ens.lends h))
    (memory_latest st.closed held r.0 snap.version ens.answer opened)

pub returns-in-Err-clause-lends : goal.returns-in-Err-clause-lends
returns-in-Err-clause-lends g c =
    let view = g.S.Store.view in
    let st = c.args.state.now in
    let mid = c.open_version-reply.new.state in
    let lends : Lends view st c.give_back_snapshot.new.self =
    lends_then view st mid c.give_back_snapshot.new.self c.open_version-reply.ensures.lends (rests_lends view mid c.give_back_snapshot.new.self c.give_back_snapshot.ensures.rests) in
    lends

pub returns-in-Err-clause-calm : goal.returns-in-Err-clause-calm
returns-in-Err-clause-calm g c =
    let view = g.S.Store.view in
    let st = c.args.state.now in
    let mid = c.open_version-reply.new.state in
    let lends : Lends view st c.give_back_snapshot.new.self =
    lends_then view st mid c.give_back_snapshot.new.self c.open_version-reply.ensures.lends (rests_lends view mid c.give_back_snapshot.new.self c.give_back_snapshot.ensures.rests) in
    lends.calm
