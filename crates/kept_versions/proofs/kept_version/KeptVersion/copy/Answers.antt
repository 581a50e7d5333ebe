use Rattle.std.proofs.Common.{◌∙◌}
use Rattle.kept_versions.proofs.ChangeFacts.{marked_none}
use Rattle.kept_versions.proofs.kept_version.KeptVersion.copy.Goals as goal

pub returns : goal.returns
returns c = c.in_ok-mark_rowsets.ensures ∙ marked_none _ ∙ c.as_slice.ensures ∙ c.self.view_is
