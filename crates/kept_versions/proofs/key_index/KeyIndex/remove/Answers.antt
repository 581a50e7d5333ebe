use Rattle.std.proofs.Common.{ap, ◌∙◌}
use Rattle.std.specs.FinMap.{remove}
use Rattle.kept_versions.specs.Indexes.{IndexRoom}
use Rattle.kept_versions.proofs.IndexFacts.{index_removed}
use Rattle.kept_versions.proofs.key_index.KeyIndex.remove.Goals as goal

pub returns-clause-map : goal.returns-clause-map
returns-clause-map c =
    index_removed c.self.inside.places.entries c.remove.new.self.entries c.args.key.now c.remove.ensures.updates.0
    ∙ ap (λ (v : IndexRoom). remove v.map c.args.key.now) c.self.view_is
