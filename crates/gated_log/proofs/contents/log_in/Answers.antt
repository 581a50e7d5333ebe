use Rattle.std.proofs.Common.{sym, ◌∙◌}
use Rattle.gated_log.proofs.First.{scanned_ends}
use Rattle.gated_log.proofs.contents.log_in.Goals as goal

pub returns-clause-found : goal.returns-clause-found
returns-clause-found g c image told = scanned_ends _ _ _ (c.in_ok-bodies.ensures.scanned image (c.length.ensures.calm.seen ∙ told))
