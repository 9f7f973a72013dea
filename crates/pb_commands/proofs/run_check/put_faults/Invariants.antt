use Rattle.std.proofs.Common.{◌≡◌, ◌++◌, map, take}
use Rattle.pb_rows.specs.Writing.{text_of_rows}
use Rattle.pb_commands.specs.Inner.Checked.{fault_row}
use Rattle.pb_commands.proofs.run_check.put_faults.Given as goal

abbrev pub invariant-loop-fault : goal.invariant-loop-fault
invariant-loop-fault l = l.rows.text ≡ l.initial.rows.text ++ text_of_rows (map fault_row (take l.fault-index l.faults))
