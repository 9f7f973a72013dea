use Rattle.std.proofs.Common.{◌≡◌, ◌++◌}
use Rattle.std.specs.List.{range_with_len}
use Rattle.pb_rows.specs.Tables.{table_text}
use Rattle.pb_commands.specs.Inner.Tables.{columns_of}
use Rattle.pb_commands.specs.declared.table.Table.TheVariants.{Voters}
use Rattle.pb_commands.proofs.voters_table.put_voters.Given as goal

abbrev pub invariant-loop-position : goal.invariant-loop-position
invariant-loop-position l = record {
  same : l.teller ≡ l.count;
  rows : l.rows.text ≡ l.fn.rows.text ++ table_text (columns_of Voters l.count) (range_with_len 0 l.position);
}
