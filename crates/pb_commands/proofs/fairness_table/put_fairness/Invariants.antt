use Rattle.std.proofs.Common.{◌≡◌, ◌++◌, ◌&&◌, map, not}
use Rattle.std.specs.Prelude.{filter, nat_lt}
use Rattle.std.specs.List.{range_with_len}
use Rattle.pb_core.specs.Order.{position_in}
use Rattle.pb_price.specs.Supporters.{support_of}
use Rattle.pb_reasons.specs.Counted.{winners_of}
use Rattle.pb_rounds.specs.MostVotes.{is_taken, votes_at}
use Rattle.pb_rows.specs.Tables.{table_text}
use Rattle.pb_commands.specs.Inner.Tables.{columns_of}
use Rattle.pb_commands.specs.declared.table.Table.TheVariants.{Fairness}
use Rattle.pb_commands.proofs.fairness_table.put_fairness.Given as goal

abbrev pub invariant-loop-position : goal.invariant-loop-position
invariant-loop-position l = l.rows.text ≡ l.fn.rows.text ++ table_text (columns_of Fairness l.count)
    (filter (λ place. nat_lt 0 (votes_at (support_of l.count.election) place) && not (is_taken (winners_of l.count.counted) place))
    (map (position_in l.count.order) (range_with_len 0 l.position)))
