use Rattle.std.proofs.Common.{◌≡◌, ◌∙◌, ◌∷◌}
use Rattle.pk_model.specs.Runs.{unread}
use Rattle.pk_model.proofs.RunLaws.{moved-one, nothing-left}
use Rattle.pk_model.proofs.runs.Run.append.Goals as goal

pub loop-key-preserved : goal.loop-key-preserved
loop-key-preserved c =
    let left : unread c.loop-key.rest ≡ (c.in-Some.key, c.in-Some.row) ∷ unread c.pop.new.self = c.in-Some.ensures.pairs in
    moved-one _ _ _ _ _ c.in_ok-push.ensures left ∙ c.loop-key.invariant

pub returns : goal.returns
returns c = nothing-left _ _ c.in_default.ensures.none ∙ c.loop-key.invariant
