use Rattle.std.proofs.Common.{◌≡◌, drop, slice_get}
use Rattle.pb_desk.specs.Inner.Slots.{filed}
use Rattle.pb_desk.proofs.ballot_list.nth.Given as goal

abbrev pub invariant-loop-slot : goal.invariant-loop-slot
invariant-loop-slot g l = slice_get (filed (drop l.slot-index l.slots)) l.left ≡ slice_get (filed l.slots) l.place
