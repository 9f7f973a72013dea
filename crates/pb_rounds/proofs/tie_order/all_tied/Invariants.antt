use Rattle.std.proofs.Common.{◌≡◌, map}
use Rattle.std.specs.List.{range_with_len}
use Rattle.pb_rounds.specs.Inner.Tied.{tied_of}
use Rattle.pb_rounds.proofs.tie_order.all_tied.Given as goal

abbrev pub invariant-loop-place : goal.invariant-loop-place
invariant-loop-place l = l.tied.items ≡ map (tied_of l.ties l.election) (range_with_len 0 l.place)
