use Rattle.std.proofs.Common.{◌∙◌, ap}
use Rattle.pb_rounds.specs.Run.{key_of}
use Rattle.pb_rounds.proofs.QueueSteps.{full_more}
use Rattle.pb_reasons.proofs.tie_queue.opening_queue.Goals as goal

pub loop-place-preserved : goal.loop-place-preserved
loop-place-preserved c =
    let m = c.args.measure in
    let s = c.args.supporters.now in
    full_more m s c.loop-place.place c.loop-place.queue.keys c.loop-place.invariant c.key_of-key.result
    (c.key_of-key.ensures ∙ ap (key_of m s c.loop-place.place) c.whole.ensures) c.insert.new.self.keys c.in_ok-insert.ensures.keys c.insert.ensures.ordered
