use Rattle.pb_reasons.proofs.Positions.{AreNumberedFrom}
use Rattle.pb_reasons.proofs.rounds.rounds_of.Given as goal

abbrev pub invariant-loop-round : goal.invariant-loop-round
invariant-loop-round l = AreNumberedFrom (λ w. w.place) l.projects l.elected l.rounds.items l.round

abbrev pub decreases-loop-round : goal.decreases-loop-round
decreases-loop-round l = l.round
