use Rattle.std.proofs.Common.{◌≡◌, map, take}
use Rattle.pb_reasons.proofs.counted.places_of.Given as goal

abbrev pub invariant-loop-winner : goal.invariant-loop-winner
invariant-loop-winner l = l.places.items ≡ map (λ w. w.place) (take l.winner-index l.elected)
