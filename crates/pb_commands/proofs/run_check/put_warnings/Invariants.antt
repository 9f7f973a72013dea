use Rattle.std.proofs.Common.{◌≡◌, ◌++◌, map, take}
use Rattle.pb_rows.specs.Writing.{text_of_rows}
use Rattle.pb_commands.specs.Checked.{warning_row}
use Rattle.pb_commands.proofs.run_check.put_warnings.Given as goal

abbrev pub invariant-loop-warning : goal.invariant-loop-warning
invariant-loop-warning l = l.rows.text ≡ l.initial.rows.text ++ text_of_rows (map warning_row (take l.warning-index l.warnings))
