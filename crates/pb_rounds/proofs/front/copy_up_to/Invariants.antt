use Rattle.pb_rounds.proofs.FrontSteps.{Copying}
use Rattle.pb_rounds.proofs.front.copy_up_to.Given as goal

abbrev pub invariant-loop-key : goal.invariant-loop-key
invariant-loop-key g l = Copying l.share l.from.keys l.queue.keys l.key-iterator
