use Rattle.std.proofs.Common.{◌≡◌, map, take}
use Rattle.std.specs.Prelude.{filter, nat_lt, slice_index}
use Rattle.pb_reasons.proofs.purse.gather.Given as goal

abbrev pub invariant-loop-place : goal.invariant-loop-place
invariant-loop-place l = l.due.items ≡ filter (λ round. nat_lt round l.elected) (map (λ place. slice_index l.rounds place) (take l.place-index l.ballot))
