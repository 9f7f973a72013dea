use Rattle.std.proofs.Common.{◌-◌, ◌≤◌, length}
use Rattle.pb_price.specs.Supporters.{IsSupport}
use Rattle.pb_rounds.proofs.TrialRounds.{Trying}
use Rattle.pb_rounds.proofs.trial.Trial.end_of.Given as goal

abbrev pub invariant-loop-best : goal.invariant-loop-best
invariant-loop-best g l = record {
  is_support : IsSupport l.supporters;
  within : l.spent ≤ l.fn.budget;
  trying : Trying l.fn.front.measure l.supporters l.fn.share l.queue.keys l.outcome l.marks.items l.spent;
}

abbrev pub decreases-loop-best : goal.decreases-loop-best
decreases-loop-best g l = length l.supporters.costs - length l.outcome.elected
