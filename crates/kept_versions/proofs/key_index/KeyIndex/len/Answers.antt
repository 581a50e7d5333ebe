use Rattle.std.proofs.Common.{ap, sym, ◌∙◌}
use Rattle.std.specs.FinMap.{len}
use Rattle.kept_versions.specs.Indexes.{IndexRoom}
use Rattle.kept_versions.proofs.IndexFacts.{len_index}
use Rattle.kept_versions.proofs.key_index.KeyIndex.len.Goals as goal

pub returns : goal.returns
returns c =
    c.len.ensures.len
    ∙ sym (len_index c.self.inside.places.entries c.len.ensures.unique)
    ∙ ap (λ (v : IndexRoom). len v.map) c.self.view_is
