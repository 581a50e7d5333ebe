use Rattle.std.proofs.Common.{◌∙◌}
use Rattle.gated_log.proofs.First.{scanned_log}
use Rattle.gated_log.proofs.contents.bodies.Goals as goal

pub returns-clause-bodies : goal.returns-clause-bodies
returns-clause-bodies g c image told = scanned_log _ _ _ (c.in_ok-found.ensures.scanned image (c.length.ensures.calm.seen ∙ told))
