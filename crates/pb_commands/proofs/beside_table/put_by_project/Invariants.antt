use Rattle.std.proofs.Common.{◌≡◌, ◌++◌}
use Rattle.std.specs.List.{range_with_len}
use Rattle.pb_rows.specs.Tables.{table_text}
use Rattle.pb_commands.specs.Inner.Beside.{beside_columns}
use Rattle.pb_commands.proofs.beside_table.put_by_project.Given as goal

abbrev pub invariant-loop-place : goal.invariant-loop-place
invariant-loop-place l =
    let s = l.sides in
    l.rows.text ≡ l.fn.rows.text ++ table_text (beside_columns l.election s.rule.now s.other.now s.winners.now s.others.now) (range_with_len 0 l.place)
