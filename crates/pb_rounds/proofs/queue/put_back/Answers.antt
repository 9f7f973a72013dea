use Rattle.pb_rounds.proofs.QueueSteps.{puts_step}
use Rattle.pb_rounds.proofs.queue.put_back.Goals as goal

pub loop-key-preserved : goal.loop-key-preserved
loop-key-preserved g c =
    puts_step c.args.place c.args.fresh.now c.loop-key.key-index c.key-item.result c.loop-key-test.true c.args.queue.now.keys c.loop-key.queue.keys
    c.put_back_unless.new.queue.keys c.loop-key.invariant c.key-item.result c.key-item.is c.in_ok-put_back_unless.ensures
