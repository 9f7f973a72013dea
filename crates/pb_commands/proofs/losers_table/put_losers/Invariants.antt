use Rattle.std.proofs.Common.{◌≡◌, ◌++◌, map, take}
use Rattle.std.specs.Prelude.{string_bytes}
use Rattle.pb_rows.specs.Tables.{table_text}
use Rattle.pb_commands.specs.Losers.{loser_columns}
use Rattle.pb_commands.proofs.losers_table.put_losers.Given as goal

abbrev pub invariant-loop-loser : goal.invariant-loop-loser
invariant-loop-loser l = l.rows.text ≡ l.fn.rows.text ++ table_text (loser_columns (map string_bytes l.ids)) (take l.loser-index l.losers)
