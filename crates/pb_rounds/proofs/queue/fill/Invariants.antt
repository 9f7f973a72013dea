use Rattle.pb_rounds.specs.Inner.Queue.{IsFull}
use Rattle.pb_rounds.proofs.queue.fill.Given as goal

abbrev pub invariant-loop-place : goal.invariant-loop-place
invariant-loop-place g l = IsFull l.measure l.supporters l.place l.queue.keys
