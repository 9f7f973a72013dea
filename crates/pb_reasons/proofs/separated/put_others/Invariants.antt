use Rattle.std.proofs.Common.{◌≡◌, ◌++◌, map, take}
use Rattle.std.specs.Prelude.{filter}
use Rattle.std.specs.List.{range_with_len}
use Rattle.pb_core.specs.Order.{position_in}
use Rattle.pb_rounds.specs.MostVotes.{is_taken}
use Rattle.pb_reasons.specs.Inner.AllTies.{with_other}
use Rattle.pb_reasons.proofs.separated.put_others.Given as goal

abbrev pub invariant-loop-place : goal.invariant-loop-place
invariant-loop-place g l = l.told.rows.items ≡ take g.row.MOST (l.fn.told.rows.items
    ++ map (λ place. with_other l.first (position_in l.count.order place)) (filter (λ place. is_taken l.fn.others (position_in l.count.order place)) (range_with_len 0 l.place)))
