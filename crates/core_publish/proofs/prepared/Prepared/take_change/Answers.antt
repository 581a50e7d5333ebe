use Rattle.std.proofs.Common.{ap, map, ◌∙◌}
use Rattle.core_publish.specs.Prepared.{PreparedView}
use Rattle.core_publish.proofs.EntryFacts.{entries-in-four}
use Rattle.core_publish.proofs.prepared.Prepared.take_change.Goals as goal

pub number_from-requires-clause-four : goal.number_from-requires-clause-four
number_from-requires-clause-four g c =
    let at = c.self.inside in
    rw (c.replace-index.ensures.value)
    (entries-in-four at.schema.value at.load.value (map (λ f. (g.M.FileMaker.sealed_bytes f.sealed, f.footer)) at.files.items) at.entries.items
    (c.self.invariant (ap (λ (p : PreparedView). p.spent) c.self.view_is ∙ c.requires.unspent)))
