use Rattle.std.proofs.Common.{◌-◌, length}
use Rattle.pb_price.specs.Supporters.{IsSupport}
use Rattle.pb_rounds.proofs.RunQueue.{Queued}
use Rattle.pb_rounds.proofs.run.Run.run.Given as goal

abbrev pub invariant-loop-best : goal.invariant-loop-best
invariant-loop-best g l = record {
  is_support : IsSupport l.pricing.supporters.now;
  queued : Queued l.pricing.measure l.pricing.supporters.now l.pricing.workers l.fn.share l.fn.raised l.most l.self.queue.keys l.outcome;
}

abbrev pub decreases-loop-best : goal.decreases-loop-best
decreases-loop-best g l = length l.pricing.supporters.now.costs - length l.outcome.elected
