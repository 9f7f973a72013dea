-- The faults of a journal on a device, as the program has them.
use Rattle.pb_durable.specs.declared.device_fault.DeviceFault.TheVariants as device
use Rattle.pb_durable.specs.declared.open_fault.OpenFault.{OpenFault}
use Rattle.pb_durable.specs.declared.open_fault.OpenFault.TheVariants as opening
use Rattle.pb_faults.specs.Fault.{merged}
use Rattle.pb_faults.specs.declared.fault.AppFault.{AppFault}
use Rattle.pb_faults.specs.declared.fault.AppFault.TheVariants.{Audit, Memory, Serving, Write}
use Rattle.pb_faults.specs.declared.serving_fault.ServingFault.TheVariants.{Spelling}

-- the fault of a journal that was not opened; what a device has to say is told so at any time
abbrev pub of_opening : OpenFault → AppFault
of_opening (opening.Audit fault) = merged (Audit fault)
of_opening opening.Spelling = Serving Spelling
of_opening (opening.Device device.NoMemory) = Memory
of_opening (opening.Beside device.NoMemory) = Memory
of_opening why = Write
