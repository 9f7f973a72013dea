use Rattle.std.specs.List.{range_with_len}
use Rattle.std.specs.Prelude.{flat_map, map}
use Rattle.pb_core.specs.Order.{position_in}
use Rattle.pb_page.specs.Inner.Grown.{Grows}
use Rattle.pb_page.specs.Inner.Counted.{lost_row}
use Rattle.pb_page.proofs.project_tables.put_lost_rows.Given as goal

abbrev pub invariant-loop-place : goal.invariant-loop-place
invariant-loop-place l = Grows l.fn.page.items l.page.items (flat_map (lost_row l.facts l.money) (map (position_in l.money.order) (range_with_len 0 l.place)))
