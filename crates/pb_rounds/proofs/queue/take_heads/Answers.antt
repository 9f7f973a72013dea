use Rattle.std.proofs.Common.{◌∙◌, ◌++◌, ◌∷◌, [], ap, arith}
use Rattle.pb_rounds.proofs.QueueSteps.{taking_more, takes_all, takes_until_done}
use Rattle.pb_rounds.proofs.queue.take_heads.Goals as goal

pub returns-in_default : goal.returns-in_default
returns-in_default g c =
    takes_until_done c.args.best.now c.loop.counter c.args.most c.args.queue.now.keys c.loop.queue.keys c.take_head.new.queue.keys
    c.args.places.now.items c.loop.places.items c.loop.invariant (omega (arith, c.loop-test.true)) c.in_default.ensures.0 c.in_default.ensures.1

pub loop-preserved : goal.loop-preserved
loop-preserved g c =
    taking_more c.args.best.now c.loop.counter c.args.queue.now.keys c.loop.queue.keys c.args.places.now.items c.loop.places.items c.loop.invariant
    c.in-Some.head c.take_head.new.queue.keys c.in-Some.ensures.0 c.in-Some.ensures.1 c.push.new.self.items
    (c.in_ok-push.ensures.items ∙ ap (λ n. c.loop.places.items ++ n ∷ []) c.place.ensures)

pub returns : goal.returns
returns g c =
    takes_all c.args.best.now c.loop.counter c.args.most c.args.queue.now.keys c.loop.queue.keys c.args.places.now.items c.loop.places.items
    c.loop.invariant c.loop.auto.counter-end c.loop-test.false c.requires
