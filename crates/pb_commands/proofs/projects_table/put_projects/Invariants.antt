use Rattle.std.proofs.Common.{◌≡◌, ◌++◌, map}
use Rattle.std.specs.List.{range_with_len}
use Rattle.pb_core.specs.Order.{position_in}
use Rattle.pb_rows.specs.Tables.{table_text}
use Rattle.pb_commands.specs.Inner.Tables.{columns_of}
use Rattle.pb_commands.specs.declared.table.Table.TheVariants.{Projects}
use Rattle.pb_commands.proofs.projects_table.put_projects.Given as goal

abbrev pub invariant-loop-place : goal.invariant-loop-place
invariant-loop-place l =
    l.rows.text ≡ l.fn.rows.text ++ table_text (columns_of Projects l.count) (map (position_in l.count.order) (range_with_len 0 l.place))
