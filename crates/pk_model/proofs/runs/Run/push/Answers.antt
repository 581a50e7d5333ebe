use Rattle.std.proofs.Common.{◌∙◌, ◌++◌, ◌∷◌, [], ap}
use Rattle.std.specs.List.{zip}
use Rattle.pk_model.proofs.RunLaws.{zip-push}
use Rattle.pk_model.proofs.runs.Run.push.Goals as goal

pub returns : goal.returns
returns c =
    (λ i. zip ((c.push_reserved.ensures.items ∙ ap (λ ks. ks ++ c.args.key ∷ []) c.reserve.ensures.items) i) ((c.push_reserved-2.ensures.items ∙ ap (λ rs. rs ++ c.args.row ∷ []) c.reserve-2.ensures.items) i))
    ∙ zip-push c.args.self.now.keys.items c.args.self.now.rows.items c.args.key c.args.row c.args.self.now.even
