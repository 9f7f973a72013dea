use Rattle.std.proofs.Common.{◌≡◌, ℕ, ◌<◌, false, get_or}
use Rattle.std.specs.List.{list_any}
use Rattle.pb_core.specs.Election.{VoterView}
use Rattle.pb_reasons.specs.Inner.Raises.{leave_room_for}
use Rattle.pb_reasons.proofs.room.leave_room_for_any_voter.Given as goal

abbrev pub invariant-loop-voter : goal.invariant-loop-voter
invariant-loop-voter l =
    (k : ℕ) (d : VoterView) → k < l.voter-index → list_any (leave_room_for l.winners l.left) (get_or l.voters k d).ballot ≡ false
