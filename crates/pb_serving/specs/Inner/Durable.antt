-- The faults of requests that were not answered, and of a device meanwhile, as the program has them.
use Rattle.pb_desk.specs.declared.desk_fault.DeskFault.TheVariants as desk
use Rattle.pb_durable.specs.declared.device_fault.DeviceFault.{DeviceFault}
use Rattle.pb_durable.specs.declared.durable_fault.DurableFault.{DurableFault}
use Rattle.pb_durable.specs.declared.durable_fault.DurableFault.TheVariants as durable
use Rattle.pb_durable.specs.declared.open_fault.OpenFault.TheVariants as opening
use Rattle.pb_faults.specs.Durable.{of_opening}
use Rattle.pb_faults.specs.declared.fault.AppFault.{AppFault}
use Rattle.pb_faults.specs.declared.fault.AppFault.TheVariants.{Memory, Write}

-- the fault of a device
abbrev pub of_device : DeviceFault → AppFault
of_device why = of_opening (opening.Device why)

-- the fault of requests that were not answered
abbrev pub of_durable : DurableFault → AppFault
of_durable (durable.Desk desk.NoMemory) = Memory
of_durable (durable.Desk desk.JournalFull) = Write
of_durable (durable.Device why) = of_device why
