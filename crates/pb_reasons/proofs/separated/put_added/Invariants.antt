use Rattle.std.proofs.Common.{◌≡◌, ◌++◌, take}
use Rattle.std.specs.Prelude.{flat_map}
use Rattle.std.specs.List.{range_with_len}
use Rattle.pb_reasons.specs.Inner.AllTies.{ties_at_added}
use Rattle.pb_reasons.proofs.separated.put_added.Given as goal

abbrev pub invariant-loop-number : goal.invariant-loop-number
invariant-loop-number g l = l.told.rows.items ≡ take g.row.MOST (l.fn.told.rows.items ++ flat_map (ties_at_added l.count) (range_with_len 0 l.number))
