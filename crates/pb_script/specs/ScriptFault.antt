-- The rows of a script's faults.
use Rattle.std.specs.Prelude.{ℕ, ◌+◌}
use Rattle.pb_read.specs.StandsFor.{most_records}
use Rattle.pb_script.specs.declared.script_fault.ScriptFault.{ScriptFault}
use Rattle.pb_script.specs.declared.script_fault.ScriptFault.TheVariants.{ReadFailed, BadRow, TooManyRows}
use Rattle.pb_script.specs.declared.script_fault.ScriptFault.TheVariants.{NoMemory, UnknownId, NotOnRoll}
use Rattle.pb_script.specs.declared.script_fault.ScriptFault.TheVariants.{TooFew, FromFile, NoShut}

-- the number of the fault's row, from 1; out of memory is the fault of no row
abbrev pub at_row : ScriptFault → ℕ
at_row (ReadFailed row) = row
at_row (BadRow row) = row
at_row TooManyRows = most_records + 1
at_row NoMemory = 0
at_row (UnknownId row) = row
at_row (NotOnRoll row) = row
at_row (TooFew row) = row
at_row (FromFile row) = row
at_row (NoShut row) = row
