use Rattle.std.proofs.Common.{ap, ◌∙◌}
use Rattle.std.specs.FinMap.{insert}
use Rattle.kept_versions.specs.Indexes.{IndexRoom}
use Rattle.kept_versions.proofs.IndexFacts.{index_put}
use Rattle.kept_versions.proofs.key_index.KeyIndex.insert.Goals as goal

pub returns-clause-map : goal.returns-clause-map
returns-clause-map c =
    index_put c.self.inside.places.entries c.insert.new.self.entries c.args.key c.args.place c.in-Ok.ensures.updates.0
    ∙ ap (λ (v : IndexRoom). insert v.map c.args.key c.args.place) c.self.view_is
