use Rattle.std.proofs.Common.{ap, sym, ◌∙◌}
use Rattle.std.specs.FinMap.{get}
use Rattle.kept_versions.specs.Indexes.{IndexRoom}
use Rattle.kept_versions.proofs.IndexFacts.{get_index}
use Rattle.kept_versions.proofs.key_index.KeyIndex.get.Goals as goal

pub returns : goal.returns
returns c =
    c.copied.ensures ∙ c.get.ensures.value
    ∙ sym (get_index c.self.inside.places.entries c.args.key.now)
    ∙ ap (λ (v : IndexRoom). get v.map c.args.key.now) c.self.view_is
