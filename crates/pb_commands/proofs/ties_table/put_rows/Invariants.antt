use Rattle.std.proofs.Common.{◌≡◌, ◌++◌, map, take}
use Rattle.std.specs.Prelude.{string_bytes}
use Rattle.pb_rows.specs.Tables.{table_text}
use Rattle.pb_commands.specs.AllTies.{tie_columns}
use Rattle.pb_commands.proofs.ties_table.put_rows.Given as goal

abbrev pub invariant-loop-row : goal.invariant-loop-row
invariant-loop-row l = l.rows.text ≡ l.fn.rows.text ++ table_text (tie_columns (map string_bytes l.ids)) (take l.row-index l.ties)
