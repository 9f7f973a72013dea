use Rattle.pb_rounds.specs.Inner.Bounds.{IsOpening}
use Rattle.pb_rounds.proofs.bounds.fill_opening.Given as goal

abbrev pub invariant-loop-place : goal.invariant-loop-place
invariant-loop-place g l = IsOpening l.measure l.supporters l.fn.share l.place l.queue.keys
