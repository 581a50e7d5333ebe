use Rattle.std.proofs.Common.{◌≡◌, sym, ◌∙◌, subst, ◌∷◌, T}
use Rattle.pk_model.specs.Runs.{unread, are_up_to}
use Rattle.pk_model.proofs.RunLaws.{moved-one, up_to-append}
use Rattle.pk_model.proofs.runs.Run.advance.Goals as goal

pub loop-key-preserved : goal.loop-key-preserved
loop-key-preserved c =
    let left : unread c.loop-key.rest ≡ (c.in-Some.key, c.in-Some.row) ∷ unread c.next_up_to.new.self = c.in-Some.ensures.pairs in
    record {
      same = moved-one _ _ _ _ _ c.in_ok-push.ensures left ∙ c.loop-key.invariant.same;
      behind = λ u. subst (λ es. T (are_up_to c.args.key.now es)) (sym c.in_ok-push.ensures) (up_to-append c.args.key.now _ _ (c.loop-key.invariant.behind u) c.in-Some.ensures.up_to);
    }
