use Rattle.std.proofs.Common.{inl}
use Rattle.std.proofs.lemmas.Result.{err_from_is_err_and}
use Rattle.segment_read.proofs.Scanning.{damage_weaker}
use Rattle.segment_read.proofs.scans.add_block.Goals as goal

pub returns-in_err-next-clause-damaged : goal.returns-in_err-next-clause-damaged
returns-in_err-next-clause-damaged g c =
    let p = err_from_is_err_and c.from_residual.result c.from_residual.ensures.1 in
    rw (p.1, p.2) (damage_weaker _ _ _ _ _ (λ shown shows file told mark got. inl (shows file told mark got)) c.in_err-next.ensures.damaged)
