use Rattle.pb_rounds.proofs.Room.{AreSeen}
use Rattle.pb_rounds.proofs.reach.leaves_room.Given as goal

abbrev pub invariant-loop-place : goal.invariant-loop-place
invariant-loop-place g l = AreSeen l.supporters l.fn.share l.place l.within l.least
