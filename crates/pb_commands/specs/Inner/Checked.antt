-- The row of a fault.
use Rattle.std.specs.Prelude.{◌∷◌, codes}
use Rattle.pb_rows.specs.Reading.{Fields}
use Rattle.pb_read.specs.declared.fault.ReadFault.{ReadFault}
use Rattle.pb_faults.specs.Fault.{told}
use Rattle.pb_faults.specs.declared.fault.AppFault.TheVariants.{Read}

-- the row of a fault
abbrev pub fault_row : ReadFault → Fields
fault_row fault = codes "fault" ∷ (told (Read fault)).1
