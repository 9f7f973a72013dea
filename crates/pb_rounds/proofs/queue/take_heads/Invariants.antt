use Rattle.pb_rounds.proofs.QueueSteps.{Taking}
use Rattle.pb_rounds.proofs.queue.take_heads.Given as goal

abbrev pub invariant-loop : goal.invariant-loop
invariant-loop g l = Taking l.best l.counter l.fn.queue.keys l.queue.keys l.fn.places.items l.places.items
