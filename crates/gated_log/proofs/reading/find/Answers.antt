use Rattle.std.proofs.Common.{◌≡◌, ℕ, List, [], Bool, IsTrue, sym, ◌∙◌, subst}
use Rattle.dev_traits.specs.Image.{Image, area_of}
use Rattle.dev_traits.proofs.Moments.{calm_leaves, calm_then, each_still}
use Rattle.gated_log.specs.Log.{EndsAt}
use Rattle.gated_log.proofs.Blocks.{ends_here, is_log_here, none_in_empty}
use Rattle.gated_log.proofs.Bytes.{ends_is_log}
use Rattle.gated_log.proofs.Finding.{calm_blanked, then_blanked, at_ok, same_some}
use Rattle.gated_log.proofs.reading.find.Goals as goal

pub returns-in_err-length-clause-any_moment : goal.returns-in_err-length-clause-any_moment
returns-in_err-length-clause-any_moment g c = calm_blanked c.args.area _ _ c.length.ensures.calm

pub returns-in_err-end-clause-any_moment : goal.returns-in_err-end-clause-any_moment
returns-in_err-end-clause-any_moment g c = calm_blanked c.args.area _ _ (calm_then _ _ _ c.length.ensures.calm c.closed_gate.ensures.calm)

pub returns-clause-any_moment : goal.returns-clause-any_moment
returns-clause-any_moment g c = calm_blanked c.args.area _ _ (calm_then _ _ _ c.length.ensures.calm c.closed_gate.ensures.calm)

pub returns-clause-a_log : goal.returns-clause-a_log
returns-clause-a_log g c image told =
    let found = c.in_ok-end.ensures.found image (c.length.ensures.calm.seen ∙ told) in
    (found.0.bodies, is_log_here (area_of image c.args.area) c.in_ok-end.end found.0 found.1)

pub returns-clause-found : goal.returns-clause-found
returns-clause-found g c image told image' told' bodies log =
    let found = c.in_ok-end.ensures.found image (c.length.ensures.calm.seen ∙ told) in
    let same : image ≡ image' = same_some image image' (sym (c.closed_gate.ensures.calm.seen ∙ c.length.ensures.calm.seen ∙ told) ∙ told') in
    subst (λ (i : Image). EndsAt bodies c.in_ok-end.end (area_of i c.args.area)) same (ends_here (area_of image c.args.area) c.in_ok-end.end found.0 found.1 bodies log)

pub returns-in_err-room-clause-any_moment : goal.returns-in_err-room-clause-any_moment
returns-in_err-room-clause-any_moment g c = calm_blanked c.args.area _ _ (calm_then _ _ _ c.length.ensures.calm c.room.ensures.calm)

pub returns-then-length-eq0-clause-any_moment : goal.returns-then-length-eq0-clause-any_moment
returns-then-length-eq0-clause-any_moment g c = then_blanked c.args.area _ _ _ (calm_then _ _ _ c.length.ensures.calm c.room.ensures.calm) c.reset.ensures.any_moment

pub returns-then-length-eq0-clause-found : goal.returns-then-length-eq0-clause-found
returns-then-length-eq0-clause-found g c = at_ok c.reset.result _ _ _ c.reset.ensures.none c.reset.ensures.log
    (λ none log is before told after told' bodies a_log.
    let empty : bodies ≡ [] = none_in_empty (area_of before c.args.area) (sym c.if-length-eq0.true ∙ c.in_ok-length.ensures.length before told) bodies a_log in
    subst (λ (bs : List (List ℕ)). EndsAt bs log.end (area_of after c.args.area)) (sym empty) (subst (λ (n : ℕ). EndsAt [] n (area_of after c.args.area)) (sym is.1) (none after told')))

pub returns-in_err-end-clause-unwritten : goal.returns-in_err-end-clause-unwritten
returns-in_err-end-clause-unwritten g c image told long = calm_then _ _ _ c.length.ensures.calm c.closed_gate.ensures.calm

pub returns-clause-unwritten : goal.returns-clause-unwritten
returns-clause-unwritten g c image told long = calm_then _ _ _ c.length.ensures.calm c.closed_gate.ensures.calm

pub returns-clause-settled : goal.returns-clause-settled
returns-clause-settled g c bodies end settled =
    let calm = calm_then _ _ _ c.length.ensures.calm c.closed_gate.ensures.calm in
    let read = g.met.S.Store.honest_reads c.args.store.now settled.honest in
    let ends = settled.each read.0 read.2 in
    let found = c.in_ok-end.ensures.found read.0 (c.length.ensures.calm.seen ∙ read.1) in
    let here = ends_here (area_of read.0 c.args.area) c.in_ok-end.end found.0 found.1 bodies (ends_is_log bodies end _ ends) in (
      sym here.size ∙ ends.size,
      record {
        honest = subst (λ (b : Bool). IsTrue b) (sym calm.honest) settled.honest;
        each = each_still (λ (i : Image). EndsAt bodies end (area_of i c.args.area)) _ _ (calm_leaves _ _ calm) settled.each;
      },
    )

pub returns-clause-ready : goal.returns-clause-ready
returns-clause-ready g c synced honest =
    let calm = calm_then _ _ _ c.length.ensures.calm c.closed_gate.ensures.calm in
    let read = g.met.S.Store.honest_reads c.args.store.now (subst (λ (b : Bool). IsTrue b) calm.honest honest) in
    let found = c.in_ok-end.ensures.found read.0 (c.length.ensures.calm.seen ∙ read.1) in
    let ends = ends_here (area_of read.0 c.args.area) c.in_ok-end.end found.0 found.1 found.0.bodies (is_log_here (area_of read.0 c.args.area) c.in_ok-end.end found.0 found.1) in (
      found.0.bodies,
      record {
        honest = honest;
        each = each_still (λ (i : Image). EndsAt found.0.bodies c.in_ok-end.end (area_of i c.args.area)) _ _ (calm_leaves _ _ calm)
            (λ left may. subst (EndsAt found.0.bodies c.in_ok-end.end) (sym (synced read.0 read.1 left may)) ends);
      },
    )

pub returns-then-length-eq0-clause-ready : goal.returns-then-length-eq0-clause-ready
returns-then-length-eq0-clause-ready g c synced = at_ok c.reset.result _ _ _ c.reset.ensures.durable c.reset.ensures.log
    (λ durable log is honest. (
      [],
      record {
        honest = honest;
        each = λ left may. subst (λ (a : ℕ). EndsAt [] log.end (area_of left a)) (sym is.0) (subst (λ (n : ℕ). EndsAt [] n (area_of left c.args.area)) (sym is.1) (durable left may));
      },
    ))

pub returns-in_err-room-clause-short_of_memory : goal.returns-in_err-room-clause-short_of_memory
returns-in_err-room-clause-short_of_memory g c is = calm_then _ _ _ c.length.ensures.calm c.room.ensures.calm

pub returns-in_err-end-clause-refused : goal.returns-in_err-end-clause-refused
returns-in_err-end-clause-refused g c is = calm_then _ _ _ c.length.ensures.calm c.closed_gate.ensures.calm
