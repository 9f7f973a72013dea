use Rattle.std.proofs.Common.{◌≡◌, map, take}
use Rattle.pb_reasons.proofs.changes.ranked.first_places.Given as goal

abbrev pub invariant-loop-loser : goal.invariant-loop-loser
invariant-loop-loser l = l.places.items ≡ map (λ r. r.place) (take l.loser-index l.losers)
