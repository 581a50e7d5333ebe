use Rattle.std.proofs.Common.{Bool, IsTrue, sym, ◌∙◌, subst}
use Rattle.dev_traits.specs.Image.{Image, area_of}
use Rattle.dev_traits.proofs.Moments.{calm_leaves, calm_then, each_still}
use Rattle.gated_log.specs.Log.{EndsAt}
use Rattle.gated_log.proofs.Bytes.{ends_is_log}
use Rattle.gated_log.proofs.Finding.{calm_blanked, then_blanked}
use Rattle.gated_log.proofs.First.{scanned_log, scanned_ends, scanned_same, same_bodies}
use Rattle.gated_log.proofs.contents.read_log.Goals as goal

pub returns-in_err-length-clause-any_moment : goal.returns-in_err-length-clause-any_moment
returns-in_err-length-clause-any_moment g c = calm_blanked c.args.area _ _ c.length.ensures.calm

pub returns-in_err-room-clause-any_moment : goal.returns-in_err-room-clause-any_moment
returns-in_err-room-clause-any_moment g c = calm_blanked c.args.area _ _ (calm_then _ _ _ c.length.ensures.calm c.room.ensures.calm)

pub returns-in_err-log-clause-any_moment : goal.returns-in_err-log-clause-any_moment
returns-in_err-log-clause-any_moment g c = then_blanked c.args.area _ _ _ (calm_then _ _ _ c.length.ensures.calm c.room.ensures.calm) c.reset.ensures.any_moment

pub returns-then-length-eq0-clause-any_moment : goal.returns-then-length-eq0-clause-any_moment
returns-then-length-eq0-clause-any_moment g c = then_blanked c.args.area _ _ _ (calm_then _ _ _ c.length.ensures.calm c.room.ensures.calm) c.reset.ensures.any_moment

pub returns-in_err-bodies-clause-any_moment : goal.returns-in_err-bodies-clause-any_moment
returns-in_err-bodies-clause-any_moment g c = calm_blanked c.args.area _ _ (calm_then _ _ _ c.length.ensures.calm c.scan.ensures.calm)

pub returns-clause-any_moment : goal.returns-clause-any_moment
returns-clause-any_moment g c = calm_blanked c.args.area _ _ (calm_then _ _ _ c.length.ensures.calm c.scan.ensures.calm)

pub returns-clause-bodies : goal.returns-clause-bodies
returns-clause-bodies g c image told = scanned_log _ _ _ (c.in_ok-bodies.ensures.scanned image (c.length.ensures.calm.seen ∙ told))

pub returns-clause-found : goal.returns-clause-found
returns-clause-found g c image told = scanned_ends _ _ _ (c.in_ok-bodies.ensures.scanned image (sym c.scan.ensures.calm.seen ∙ told))

pub returns-clause-settled : goal.returns-clause-settled
returns-clause-settled g c bodies end settled =
    let calm = calm_then _ _ _ c.length.ensures.calm c.scan.ensures.calm in
    let read = g.met.S.Store.honest_reads c.args.store.now settled.honest in
    let ends = settled.each read.0 read.2 in
    let log = ends_is_log bodies end _ ends in
    let found = c.in_ok-bodies.ensures.scanned read.0 (c.length.ensures.calm.seen ∙ read.1) in (
      sym (scanned_same _ bodies _ _ found log).size ∙ ends.size,
      same_bodies _ bodies _ _ found log,
      record {
        honest = subst (λ (b : Bool). IsTrue b) (sym calm.honest) settled.honest;
        each = each_still (λ (i : Image). EndsAt bodies end (area_of i c.args.area)) _ _ (calm_leaves _ _ calm) settled.each;
      },
    )

pub returns-clause-ready : goal.returns-clause-ready
returns-clause-ready g c synced honest =
    let calm = calm_then _ _ _ c.length.ensures.calm c.scan.ensures.calm in
    let read = g.met.S.Store.honest_reads c.args.store.now (subst (λ (b : Bool). IsTrue b) calm.honest honest) in
    let ends = scanned_ends _ _ _ (c.in_ok-bodies.ensures.scanned read.0 (c.length.ensures.calm.seen ∙ read.1)) in (
      c.in_ok-bodies.field-0.bodies.items,
      record {
        honest = honest;
        each = each_still (λ (i : Image). EndsAt c.in_ok-bodies.field-0.bodies.items c.in_ok-bodies.field-0.end (area_of i c.args.area)) _ _ (calm_leaves _ _ calm)
            (λ left may. subst (EndsAt c.in_ok-bodies.field-0.bodies.items c.in_ok-bodies.field-0.end) (sym (synced read.0 read.1 left may)) ends);
      },
    )
