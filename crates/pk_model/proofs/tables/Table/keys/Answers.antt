use Rattle.std.proofs.Common.{◌∙◌, ap, sym}
use Rattle.std.specs.FinMap as map
use Rattle.pk_model.proofs.RunLaws.{keys-shown}
use Rattle.pk_model.proofs.tables.Table.keys.Goals as goal

pub returns : goal.returns
returns c =
    let run = c.self.inside.run in
    c.deref.ensures.value ∙ sym (keys-shown run.keys.items run.rows.items run.even c.self.invariant) ∙ ap map.keys c.self.view_is
