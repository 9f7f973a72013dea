use Rattle.std.proofs.Common.{◌≡◌, map, not, take}
use Rattle.std.specs.Prelude.{filter}
use Rattle.pb_rounds.specs.MostVotes.{is_taken}
use Rattle.pb_reasons.proofs.raise_end.others_of.Given as goal

abbrev pub invariant-loop-winner : goal.invariant-loop-winner
invariant-loop-winner l =
    l.places.items ≡ map (λ w. w.place) (filter (λ w. not (is_taken l.winners.1 w.place)) (take l.winner-index l.elected))
