use Rattle.std.proofs.Common.{◌≡◌, ℕ, ◌<◌, false}
use Rattle.pb_reasons.specs.Inner.Raises.{leave_room_for}
use Rattle.pb_reasons.proofs.room.leave_room_for_any_project.Given as goal

abbrev pub invariant-loop-place : goal.invariant-loop-place
invariant-loop-place l = (place : ℕ) → place < l.place → leave_room_for l.winners l.left place ≡ false
