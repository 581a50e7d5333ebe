use Rattle.std.proofs.Common.{◌∙◌, ap, sym}
use Rattle.std.specs.FinMap as map
use Rattle.pk_model.specs.Runs.{written}
use Rattle.pk_model.proofs.RunLaws.{len-shown}
use Rattle.pk_model.proofs.tables.Table.len.Goals as goal

pub returns : goal.returns
returns c = c.len.ensures ∙ sym (len-shown (written c.self.inside.run) c.self.invariant) ∙ ap map.len c.self.view_is
