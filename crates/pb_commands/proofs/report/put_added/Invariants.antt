use Rattle.std.proofs.Common.{◌≡◌, ◌++◌, map, take}
use Rattle.pb_rows.specs.Writing.{text_of_rows}
use Rattle.pb_commands.specs.Inner.Report.{added_row}
use Rattle.pb_commands.proofs.report.put_added.Given as goal

abbrev pub invariant-loop-place : goal.invariant-loop-place
invariant-loop-place l = l.rows.text ≡ l.initial.rows.text ++ text_of_rows (map (added_row l.count.election) (take l.place-index l.added))
