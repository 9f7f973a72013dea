use Rattle.std.proofs.Common.{◌≡◌}
use Rattle.std.specs.Prelude.{filter}
use Rattle.std.specs.List.{range_with_len}
use Rattle.pb_reasons.specs.Inner.AllTies.{is_equal_to}
use Rattle.pb_reasons.proofs.separated.equals.Given as goal

abbrev pub invariant-loop-place : goal.invariant-loop-place
invariant-loop-place l = l.others.items ≡ filter (is_equal_to l.supporters l.fn.taken l.winner) (range_with_len 0 l.place)
