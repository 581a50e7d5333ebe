use Rattle.std.proofs.Common.{ap, ◌∙◌}
use Rattle.kept_versions.specs.Indexes.{IndexRoom}
use Rattle.kept_versions.proofs.IndexFacts.{same_index}
use Rattle.kept_versions.proofs.key_index.KeyIndex.reserve.Goals as goal

pub returns-clause-map : goal.returns-clause-map
returns-clause-map c =
    same_index c.self.inside.places.entries c.reserve.new.self.entries c.reserve.ensures.entries.2 ∙ ap (λ (v : IndexRoom). v.map) c.self.view_is
