use Rattle.std.proofs.Common.{◌≡◌, length}
use Rattle.pb_rounds.specs.Inner.Queue.{PricesHeads}
use Rattle.pb_rounds.proofs.run.Run.price_round.Given as goal

abbrev pub invariant-loop-self : goal.invariant-loop-self
invariant-loop-self g l = record {
  heads : PricesHeads l.pricing.measure l.pricing.supporters.now l.rests l.most l.fn.self.queue.keys l.self.queue.keys l.self.places.items l.self.fresh.keys.items l.self.fresh.best;
  counted : l.tally.prices ≡ length l.self.places.items;
}

abbrev pub decreases-loop-self : goal.decreases-loop-self
decreases-loop-self g l = length l.self.queue.keys
