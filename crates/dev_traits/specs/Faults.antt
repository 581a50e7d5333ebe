-- A fault of one layer, told by the layer above.
use Rattle.dev_traits.specs.declared.outside.DevError.{DevError}
use Rattle.dev_traits.specs.declared.outside.DevError.TheVariants as dev
use Rattle.dev_traits.specs.declared.faults.MakeFault.{MakeFault}
use Rattle.dev_traits.specs.declared.faults.MakeFault.TheVariants as make
use Rattle.dev_traits.specs.declared.faults.ReadFault.{ReadFault}
use Rattle.dev_traits.specs.declared.faults.ReadFault.TheVariants as read
use Rattle.dev_traits.specs.declared.faults.OutsideFault.{OutsideFault}
use Rattle.dev_traits.specs.declared.faults.OutsideFault.TheVariants as outside

-- of a maker, which never answers that a file is absent
abbrev pub make_fault_of : DevError → MakeFault
make_fault_of dev.Failed = make.StoreFault
make_fault_of dev.Absent = make.StoreFault
make_fault_of dev.Memory = make.Memory

abbrev pub outside_of_make : MakeFault → OutsideFault
outside_of_make make.StoreFault = outside.Fault
outside_of_make make.Memory = outside.Memory

abbrev pub outside_of_read : ReadFault → OutsideFault
outside_of_read read.StoreFault = outside.Fault
outside_of_read (read.Damaged damaged) = outside.Damaged damaged
outside_of_read read.Memory = outside.Memory
