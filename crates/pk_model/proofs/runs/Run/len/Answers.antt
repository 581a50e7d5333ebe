use Rattle.std.proofs.Common.{sym, ◌∙◌}
use Rattle.pk_model.proofs.RunLaws.{length-zip_even}
use Rattle.pk_model.proofs.runs.Run.len.Goals as goal

pub returns : goal.returns
returns c = c.len.ensures ∙ c.args.self.now.keys.ok.0 ∙ sym (length-zip_even c.args.self.now.keys.items c.args.self.now.rows.items c.args.self.now.even)
