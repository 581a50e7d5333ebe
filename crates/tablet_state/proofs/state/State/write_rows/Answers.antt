use Rattle.std.proofs.Common.{◌≡◌, Some, IfOk, IsSome, refl, subst}
use Rattle.std.proofs.lemmas.Result.{IfOk-weaker}
use Rattle.segment_form.specs.Segments.{segment_file}
use Rattle.tablet_state.specs.State.{Shown}
use Rattle.tablet_state.proofs.MovingFacts.{told_of}
use Rattle.dev_traits.proofs.Moments.{calm_none}
use Rattle.tablet_state.proofs.Calming.{HasStill, has_calm}
use Rattle.tablet_state.proofs.state.State.write_rows.Goals as goal

pub returns-clause-has : goal.returns-clause-has
returns-clause-has g c b =
    subst (HasStill g.S.Store.view b _) c.self.view_is (has_calm g.S.Store.view _ _ b (calm_none (g.S.Store.view c.self.inside.store)) refl refl refl refl (λ stored read. read))

pub returns-clause-told : goal.returns-clause-told
returns-clause-told g c =
    let sealed = g.S.Maker.FileMaker.sealed_bytes in
    subst (λ (x : Shown g.row.S.Denot). IfOk c.write_segment.result (λ made. IsSome (g.S.Store.view x.store).seen → sealed made.sealed ≡ Some (segment_file x.contents.schema c.args.rows.now))) c.self.view_is
    (IfOk-weaker c.write_segment.result _ _ (λ made is some. told_of (sealed made.sealed) _ (g.met.S.Store.sealed_tells c.self.inside.store made.sealed some) is) c.write_segment.ensures.sealed)
