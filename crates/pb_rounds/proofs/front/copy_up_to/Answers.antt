use Rattle.std.specs.Map.Iter.{deref}
use Rattle.std.proofs.lemmas.Map.Iter.{rest_all, rest_more}
use Rattle.pb_rounds.proofs.FrontSteps.{copying_ends, copying_open, copying_puts, copying_skips, skipped_price}
use Rattle.pb_rounds.proofs.front.copy_up_to.Goals as goal

pub loop-key-init : goal.loop-key-init
loop-key-init g c =
    copying_open c.args.share c.args.from.now.keys c.clear.new.self.keys c.into_iter-key-iterator.result c.clear.ensures.empty c.into_iter-key-iterator.ensures.into_iter_gives.0

pub loop-key-preserved-in_ok-insert : goal.loop-key-preserved-in_ok-insert
loop-key-preserved-in_ok-insert g c =
    copying_puts c.args.share c.args.from.now.keys c.loop-key.queue.keys c.loop-key.key-iterator c.loop-key.invariant c.in-Some.key.now c.next.new.self
    (rest_more deref c.loop-key.key-iterator c.next.new.self c.next.result c.in-Some.key c.in-Some.is c.next.ensures.steps)
    c.insert.new.self.keys c.in_ok-insert.ensures.keys c.insert.ensures.ordered

pub loop-key-preserved : goal.loop-key-preserved
loop-key-preserved g c =
    copying_skips c.args.share c.args.from.now.keys c.loop-key.queue.keys c.loop-key.key-iterator c.loop-key.invariant c.in-Some.key.now c.next.new.self
    (rest_more deref c.loop-key.key-iterator c.next.new.self c.next.result c.in-Some.key c.in-Some.is c.next.ensures.steps)
    (skipped_price c.price.result c.in-Some.key.now.price c.args.share c.is_within.result c.is_within.ensures c.if-is_within.false c.price.ensures.price)

pub returns : goal.returns
returns g c =
    copying_ends c.args.share c.args.from.now.keys c.loop-key.queue.keys c.loop-key.key-iterator c.loop-key.invariant
    (rest_all deref c.loop-key.key-iterator c.next.new.self c.next.result c.in-None.is c.next.ensures.steps)
