-- Faults from outside.
use Rattle.std.specs.Prelude.{◌≡◌}
use Rattle.pb_faults.specs.Fault.{told}
use Rattle.pb_faults.specs.declared.fault.AppFault.{AppFault}

-- the fault of a device, or out of memory: it comes from outside, whatever the bytes are
abbrev pub IsOutsideFault : AppFault → Type 0
IsOutsideFault fault = (told fault).0 ≡ 3
