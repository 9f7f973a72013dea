use Rattle.std.proofs.Common.{◌≡◌, map, take}
use Rattle.pb_rounds.proofs.tie_order.places_of.Given as goal

abbrev pub invariant-loop-project : goal.invariant-loop-project
invariant-loop-project l = l.places.items ≡ map (λ t. t.place) (take l.project-index l.tied)
