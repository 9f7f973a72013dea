use Rattle.pb_reasons.proofs.Positions.{AreNumberedFrom}
use Rattle.pb_reasons.proofs.numbers.numbers_of.Given as goal

abbrev pub invariant-loop-number : goal.invariant-loop-number
invariant-loop-number l = AreNumberedFrom (λ p. p) l.projects l.added l.numbers.items l.number

abbrev pub decreases-loop-number : goal.decreases-loop-number
decreases-loop-number l = l.number
