-- Faults of the parts of a run, as those of the run.
use Rattle.redo_bundle.specs.declared.faults.BundleFault.{BundleFault}
use Rattle.redo_bundle.specs.declared.faults.BundleFault.TheVariants as bundle
use Rattle.redo_bundle.specs.declared.faults.WriteFault.{WriteFault}
use Rattle.redo_bundle.specs.declared.faults.WriteFault.TheVariants as write
use Rattle.redo_core.specs.declared.opening.OpenFault.{OpenFault as RunFault}
use Rattle.redo_core.specs.declared.opening.OpenFault.TheVariants as build
use Rattle.redo_run.specs.declared.fault.RunIoFault.{RunIoFault}
use Rattle.redo_run.specs.declared.fault.RunIoFault.TheVariants as run

-- lack of memory is that of the run; any other fault is the bundle's
abbrev pub of_bundle : BundleFault → RunIoFault
of_bundle bundle.Memory = run.Memory
of_bundle fault = run.Bundle fault

abbrev pub of_write : WriteFault → RunIoFault
of_write write.Device = run.Device
of_write write.Memory = run.Memory

abbrev pub of_build : RunFault → RunIoFault
of_build (build.Book line) = run.Book line
of_build build.TooMany = run.TooMany
of_build build.Memory = run.Memory
