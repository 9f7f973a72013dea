use Rattle.std.proofs.Common.{arith}
use Rattle.pb_rounds.proofs.RunQueue.{fewer_rounds, queue_known, queue_within, puts_at, queued_open, rest_rises, round_end, round_more, some_worker, winner_known, winner_price}
use Rattle.pb_rounds.proofs.run.Run.run.Goals as goal

pub loop-best-init : goal.loop-best-init
loop-best-init g c = record {
  is_support = c.projects-projects.ensures.is_support;
  queued = queued_open c.args.pricing.now.measure c.args.pricing.now.supporters.now c.projects-projects.ensures.is_support c.args.pricing.now.workers c.args.share c.args.raised c.requires.share
      c.start.new.self.queue.keys c.in_ok-start.ensures.queue c.start.new.outcome c.in_ok-start.ensures.outcome
      c.max-most.result (omega (arith, c.max-most.ensures));
}

pub price_round-requires-clause-known : goal.price_round-requires-clause-known
price_round-requires-clause-known g c = λ κs _. queue_known _ _ _ _ _ _ _ _ c.loop-best.invariant.queued c.loop-best.invariant.is_support

pub price_round-requires-clause-few : goal.price_round-requires-clause-few
price_round-requires-clause-few g c = λ κs _. queue_within _ _ _ _ _ _ _ _ c.loop-best.invariant.queued c.loop-best.invariant.is_support

pub elect-requires-clause-known : goal.elect-requires-clause-known
elect-requires-clause-known g c = winner_known _ _ _ _ _ _ _ _ c.loop-best.invariant.queued c.loop-best.invariant.is_support
    _ _ _ c.in_ok-best.field-0 c.in_ok-best.ensures.priced c.in_ok-best.ensures.done c.price_round.new.outcome c.in_ok-best.ensures.outcome c.in-Some.best c.in-Some.is

pub elect-requires-clause-price : goal.elect-requires-clause-price
elect-requires-clause-price g c = winner_price _ _ _ _ _ _ _ _ c.loop-best.invariant.queued c.loop-best.invariant.is_support
    _ _ _ c.in_ok-best.field-0 c.in_ok-best.ensures.priced c.in_ok-best.ensures.done c.price_round.new.outcome c.in_ok-best.ensures.outcome c.in-Some.best c.in-Some.is

pub put_back-requires : goal.put_back-requires
put_back-requires g c = rest_rises _ _ _ _ _ _ _ _ c.loop-best.invariant.queued c.loop-best.invariant.is_support
    _ _ _ c.in_ok-best.field-0 c.in_ok-best.ensures.priced c.in_ok-best.ensures.done c.price_round.new.outcome c.in_ok-best.ensures.outcome

pub loop-best-smaller : goal.loop-best-smaller
loop-best-smaller g c = fewer_rounds _ _ _ _ _ _ _ _ c.loop-best.invariant.queued c.loop-best.invariant.is_support
    _ _ _ c.in_ok-best.field-0 c.in_ok-best.ensures.priced c.in_ok-best.ensures.done c.price_round.new.outcome c.in_ok-best.ensures.outcome c.in-Some.best c.in-Some.is c.elect.new.outcome c.in_ok-elect.ensures

pub loop-best-preserved : goal.loop-best-preserved
loop-best-preserved g c = record {
  is_support = c.loop-best.invariant.is_support;
  queued = round_more _ _ _ _ _ _ _ _ c.loop-best.invariant.queued c.loop-best.invariant.is_support
      _ _ _ c.in_ok-best.field-0 c.in_ok-best.ensures.priced c.in_ok-best.ensures.done c.price_round.new.outcome c.in_ok-best.ensures.outcome c.in-Some.best c.in-Some.is c.elect.new.outcome c.in_ok-elect.ensures
      c.put_back.new.queue.keys (puts_at c.place.result c.in-Some.best.place c.place.ensures _ _ c.as_slice.ensures.value _ _ c.in_ok-put_back.ensures)
      (some_worker c.args.pricing.now.workers c.args.pricing.now.few_workers);
}

pub returns : goal.returns
returns g c = round_end _ _ _ _ _ _ _ _ c.loop-best.invariant.queued c.loop-best.invariant.is_support
    _ _ _ c.in_ok-best.field-0 c.in_ok-best.ensures.priced c.in_ok-best.ensures.done c.price_round.new.outcome c.in_ok-best.ensures.outcome c.in_default.is
