use Rattle.std.proofs.Common.{◌≡◌, length}
use Rattle.pb_desk.specs.Inner.Slots.{filed}
use Rattle.pb_desk.proofs.filed_ballots.first_filed.Given as goal

abbrev pub invariant-loop-slot : goal.invariant-loop-slot
invariant-loop-slot g l = filed l.left ≡ filed l.slots

abbrev pub decreases-loop-slot : goal.decreases-loop-slot
decreases-loop-slot g l = length l.left
