use Rattle.dev_traits.proofs.Moments.{calm_none}
use Rattle.gated_log.proofs.contents.body.Goals as goal

pub returns-in_err-bytes-clause-calm : goal.returns-in_err-bytes-clause-calm
returns-in_err-bytes-clause-calm g c = calm_none _
