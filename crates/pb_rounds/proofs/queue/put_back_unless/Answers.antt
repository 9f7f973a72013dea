use Rattle.std.proofs.Common.{◌∙◌}
use Rattle.pb_rounds.proofs.QueueSteps.{puts_one}
use Rattle.pb_rounds.proofs.queue.put_back_unless.Goals as goal

pub returns-in_ok-insert : goal.returns-in_ok-insert
returns-in_ok-insert g c =
    puts_one c.args.place c.args.key c.args.queue.now.keys c.insert.new.self.keys (λ e. c.if-place.true (c.place.ensures ∙ e)) c.in_ok-insert.ensures.keys c.insert.ensures.ordered
