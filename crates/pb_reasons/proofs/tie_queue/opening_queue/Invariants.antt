use Rattle.pb_rounds.specs.Inner.Queue.{IsFull}
use Rattle.pb_reasons.proofs.tie_queue.opening_queue.Given as goal

abbrev pub invariant-loop-place : goal.invariant-loop-place
invariant-loop-place l = IsFull l.measure l.supporters l.place l.queue.keys
