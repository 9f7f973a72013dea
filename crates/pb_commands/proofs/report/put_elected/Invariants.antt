use Rattle.std.proofs.Common.{◌≡◌, ◌++◌, map, take}
use Rattle.pb_rows.specs.Writing.{text_of_rows}
use Rattle.pb_commands.specs.Inner.Report.{elected_row}
use Rattle.pb_commands.proofs.report.put_elected.Given as goal

abbrev pub invariant-loop-winner : goal.invariant-loop-winner
invariant-loop-winner l = l.rows.text ≡ l.initial.rows.text ++ text_of_rows (map (elected_row l.count) (take l.winner-index l.elected))
