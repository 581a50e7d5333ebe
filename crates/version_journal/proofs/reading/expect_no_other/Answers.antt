use Rattle.std.proofs.Common.{◌≡◌, [], ap, sym, ◌∙◌}
use Rattle.std.specs.declared.result.Result.TheVariants.{Err}
use Rattle.dev_traits.specs.declared.faults.Damaged.{Damaged}
use Rattle.version_journal.specs.declared.fault.JournalFault.{JournalFault}
use Rattle.version_journal.specs.declared.fault.JournalFault.TheVariants as fault
use Rattle.version_journal.proofs.reading.expect_no_other.Goals as goal

same : (d e : Damaged) (f : JournalFault) → f ≡ fault.Damaged d → f ≡ fault.Damaged e → e ≡ d
same d e f p q = inner (sym q ∙ p)
  where
    inner : fault.Damaged e ≡ fault.Damaged d → e ≡ d
    inner h = cc

pub returns-in-Err-NotALog-clause-damaged : goal.returns-in-Err-NotALog-clause-damaged
returns-in-Err-NotALog-clause-damaged g c d e =
    (same _ d c.damaged-in-Err-NotALog.result c.damaged-in-Err-NotALog.ensures e, λ image told none. c.in-Err-NotALog.ensures.not_a_log (ap Err c.in-Err-NotALog.field-0-is) image told [] none)
