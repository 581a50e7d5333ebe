-- Faults of reading, as faults of opening.
use Rattle.dev_traits.specs.declared.faults.ReadFault.{ReadFault}
use Rattle.dev_traits.specs.declared.faults.ReadFault.TheVariants as read
use Rattle.version_journal.specs.declared.fault.JournalFault.{JournalFault}
use Rattle.version_journal.specs.declared.fault.JournalFault.TheVariants as journal
use Rattle.core_recover.specs.declared.faults.OpenFault.{OpenFault}
use Rattle.core_recover.specs.declared.faults.OpenFault.TheVariants as fault

abbrev pub of_read : ReadFault → OpenFault
of_read read.StoreFault = fault.StoreFault
of_read (read.Damaged damaged) = fault.Damaged damaged
of_read read.Memory = fault.Memory

abbrev pub of_journal : JournalFault → OpenFault
of_journal journal.Empty = fault.Empty
of_journal (journal.Damaged damaged) = fault.Damaged damaged
of_journal journal.StoreFault = fault.StoreFault
of_journal journal.Memory = fault.Memory
