use Rattle.std.proofs.Common.{◌≡◌, map}
use Rattle.std.specs.List.{range_with_len}
use Rattle.pb_core.specs.Order.{position_in}
use Rattle.pb_reasons.specs.Counted.{is_selected}
use Rattle.pb_commands.proofs.export_text.selected_of.Given as goal

abbrev pub invariant-loop-place : goal.invariant-loop-place
invariant-loop-place l = l.selected.items ≡ map (λ place. is_selected l.count.counted (position_in l.count.order place)) (range_with_len 0 l.place)
