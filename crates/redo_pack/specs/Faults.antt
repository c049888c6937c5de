-- Faults of writing a bundle, as those of packing.
use Rattle.redo_bundle.specs.declared.faults.WriteFault.{WriteFault}
use Rattle.redo_bundle.specs.declared.faults.WriteFault.TheVariants as write
use Rattle.redo_pack.specs.declared.faults.PackFault.{PackFault}
use Rattle.redo_pack.specs.declared.faults.PackFault.TheVariants.{Device, Memory}

abbrev pub fault_of : WriteFault → PackFault
fault_of write.Device = Device
fault_of write.Memory = Memory
