use Rattle.std.proofs.Common.{◌≡◌, ℕ, ◌<◌, false, get_or}
use Rattle.pb_reasons.specs.Inner.Raises.{leave_room_for}
use Rattle.pb_reasons.proofs.room.leave_room_for_any_place.Given as goal

abbrev pub invariant-loop-place : goal.invariant-loop-place
invariant-loop-place l = (k d : ℕ) → k < l.place-index → leave_room_for l.winners l.left (get_or l.places k d) ≡ false
