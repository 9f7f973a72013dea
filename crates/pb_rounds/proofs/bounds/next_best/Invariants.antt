use Rattle.std.proofs.Common.{ℕ, List}
use Rattle.pb_rounds.specs.Inner.Bounds.{HasBounds}
use Rattle.pb_rounds.specs.declared.measure.Measure.{Measure}
use Rattle.pb_rounds.proofs.BoundQueue.{looks_left}
use Rattle.pb_rounds.proofs.bounds.next_best.Given as goal

abbrev pub invariant-loop-head : goal.invariant-loop-head
invariant-loop-head g l = (m : Measure) (left : List ℕ) → HasBounds m l.supporters l.rests left l.fn.queue.keys
    → HasBounds m l.supporters l.rests left l.queue.keys

abbrev pub decreases-loop-head : goal.decreases-loop-head
decreases-loop-head g l = looks_left l.queue.keys
