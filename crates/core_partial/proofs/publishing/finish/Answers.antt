use Rattle.std.proofs.Common.{◌≡◌, ◌∙◌, [], ap, sym, subst, List, map, length, vec_len, append-nil}
use Rattle.std.proofs.lemmas.List.{length-map}
use Rattle.pk_model.specs.declared.calls.Call.TheVariants as call
use Rattle.pk_model.specs.declared.calls.Load.{Load}
use Rattle.segment_write.specs.declared.segments.Made.{Made}
use Rattle.tablet_state.specs.Contents.{Contents, index_of}
use Rattle.tablet_state.specs.Readies.{IsChangeOf, IsLed, NewSegment, new_files, next_contents}
use Rattle.tablet_state.specs.State.{Shown, reads_of}
use Rattle.core_publish.proofs.TurnFacts.{memory_step, moments_still, moments_then}
use Rattle.core_partial.proofs.HeldFacts.{held_with}
use Rattle.core_partial.proofs.publishing.finish.Goals as goal

pub returns-in-Ok-apply-clause-turn : goal.returns-in-Ok-apply-clause-turn
returns-in-Ok-apply-clause-turn g c b h over =
    let see : Made g.row.S-Maker.Denot g.row.S-Maker-Sealed.Denot g.S.Maker.FileMaker → NewSegment = λ m. (g.S.Maker.FileMaker.sealed_bytes m.sealed, m.footer) in
    let mid = c.ready_of.new.state in
    let load : Load = c.args.prepared.now.load in
    let change = c.in-Ok.ready.change in
    let is : IsChangeOf mid.contents.schema (index_of mid.contents) b load mid.contents.next_file (map see change.files.items) change.dead.items change.index.items =
    subst (λ (x : Contents). IsChangeOf x.schema (index_of x) b load x.next_file (map see change.files.items) change.dead.items change.index.items) (sym c.ready_of.ensures.rests.contents) (c.in-Ok.ensures.change b h over) in
    c.in-Ok-apply.ensures.turn b load (c.ready_of.ensures.has b h) is

pub returns-in-Ok-apply-clause-any_moment : goal.returns-in-Ok-apply-clause-any_moment
returns-in-Ok-apply-clause-any_moment g c b h over open_ =
    let see : Made g.row.S-Maker.Denot g.row.S-Maker-Sealed.Denot g.S.Maker.FileMaker → NewSegment = λ m. (g.S.Maker.FileMaker.sealed_bytes m.sealed, m.footer) in
    let st = c.args.state.now in
    let mid = c.ready_of.new.state in
    let load : Load = c.args.prepared.now.load in
    let change = c.in-Ok.ready.change in
    let is : IsChangeOf mid.contents.schema (index_of mid.contents) b load mid.contents.next_file (map see change.files.items) change.dead.items change.index.items =
    subst (λ (x : Contents). IsChangeOf x.schema (index_of x) b load x.next_file (map see change.files.items) change.dead.items change.index.items) (sym c.ready_of.ensures.rests.contents) (c.in-Ok.ensures.change b h over) in
    moments_then g.S.Store.view st mid (g.S.Store.view c.apply.new.self.store) b c.args.seq (call.Load load) (g.met.S.Store.only_now st.store) h open_ c.ready_of.ensures.rests.calm c.ready_of.ensures.rests.contents
    (c.in-Ok-apply.ensures.any_moment b load (c.ready_of.ensures.has b h) is)

pub returns-in-Err-clause-turn : goal.returns-in-Err-clause-turn
returns-in-Err-clause-turn g c b h over =
    let see : Made g.row.S-Maker.Denot g.row.S-Maker-Sealed.Denot g.S.Maker.FileMaker → NewSegment = λ m. (g.S.Maker.FileMaker.sealed_bytes m.sealed, m.footer) in
    let mid = c.ready_of.new.state in
    let load : Load = c.args.prepared.now.load in
    let change = c.in-Ok.ready.change in
    let is : IsChangeOf mid.contents.schema (index_of mid.contents) b load mid.contents.next_file (map see change.files.items) change.dead.items change.index.items =
    subst (λ (x : Contents). IsChangeOf x.schema (index_of x) b load x.next_file (map see change.files.items) change.dead.items change.index.items) (sym c.ready_of.ensures.rests.contents) (c.in-Ok.ensures.change b h over) in
    c.in-Err.ensures.turn b load (c.ready_of.ensures.has b h) is

pub returns-in-Err-clause-any_moment : goal.returns-in-Err-clause-any_moment
returns-in-Err-clause-any_moment g c b h over open_ =
    let see : Made g.row.S-Maker.Denot g.row.S-Maker-Sealed.Denot g.S.Maker.FileMaker → NewSegment = λ m. (g.S.Maker.FileMaker.sealed_bytes m.sealed, m.footer) in
    let st = c.args.state.now in
    let mid = c.ready_of.new.state in
    let load : Load = c.args.prepared.now.load in
    let change = c.in-Ok.ready.change in
    let is : IsChangeOf mid.contents.schema (index_of mid.contents) b load mid.contents.next_file (map see change.files.items) change.dead.items change.index.items =
    subst (λ (x : Contents). IsChangeOf x.schema (index_of x) b load x.next_file (map see change.files.items) change.dead.items change.index.items) (sym c.ready_of.ensures.rests.contents) (c.in-Ok.ensures.change b h over) in
    moments_then g.S.Store.view st mid (g.S.Store.view c.apply.new.self.store) b c.args.seq (call.Load load) (g.met.S.Store.only_now st.store) h open_ c.ready_of.ensures.rests.calm c.ready_of.ensures.rests.contents
    (c.in-Err.ensures.any_moment b load (c.ready_of.ensures.has b h) is)

pub returns-in-Err-Memory-clause-turn : goal.returns-in-Err-Memory-clause-turn
returns-in-Err-Memory-clause-turn g c b h over =
    memory_step g.S.Store.view c.args.state.now c.ready_of.new.state b c.args.seq c.args.prepared.now.load h c.requires.goes (c.ready_of.ensures.has b h)

pub returns-in-Err-Memory-clause-any_moment : goal.returns-in-Err-Memory-clause-any_moment
returns-in-Err-Memory-clause-any_moment g c b h over open_ =
    moments_still g.S.Store.view c.args.state.now c.ready_of.new.state b c.args.seq (call.Load c.args.prepared.now.load) (g.met.S.Store.only_now c.args.state.now.store) h open_ c.ready_of.ensures.rests.calm

pub returns-in-Ok-apply-clause-held : goal.returns-in-Ok-apply-clause-held
returns-in-Ok-apply-clause-held g c v e =
    let see : Made g.row.S-Maker.Denot g.row.S-Maker-Sealed.Denot g.S.Maker.FileMaker → NewSegment = λ m. (g.S.Maker.FileMaker.sealed_bytes m.sealed, m.footer) in
    let st = c.args.state.now in
    let ready = c.in-Ok.ready in
    let made : List NewSegment = map see ready.change.files.items in
    let same : c.ready_of.new.state.contents ≡ st.contents = c.ready_of.ensures.rests.contents in
    held_with st.contents st.segments c.args.prepared.now c.args.again made ready.change.index.items ready.change.dead.items ready.body ready.current (vec_len ready.change.files) c.apply.new.self.contents
    c.requires.again c.in-Ok.ensures.taken
    (subst (λ (x : Contents). IsLed x (new_files x.next_file made) ready.change.dead.items ready.body (next_contents (length made) ready.current ready.change.index.items x)) same c.in-Ok.ensures.made.led)
    (ready.change.files.ok.0 ∙ sym (length-map ready.change.files.items see))
    (c.in-Ok-apply.ensures.next ∙ ap (λ (x : Contents). next_contents (vec_len ready.change.files) ready.current ready.change.index.items x) same)

pub returns-in-Err-Index-clause-reads : goal.returns-in-Err-Index-clause-reads
returns-in-Err-Index-clause-reads g c = (
  [],
  ap (λ (x : Shown _). reads_of x.segments) c.close_at.ensures.closed ∙ ap reads_of c.ready_of.ensures.rests.segments ∙ sym (append-nil (reads_of c.args.state.now.segments)),
  tt,
)
