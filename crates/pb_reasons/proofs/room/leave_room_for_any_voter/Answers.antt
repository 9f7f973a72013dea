use Rattle.std.proofs.Common.{arith}
use Rattle.std.specs.List.{list_any}
use Rattle.pb_core.specs.Election.{VoterView}
use Rattle.pb_reasons.specs.Inner.Raises.{leave_room_for}
use Rattle.pb_reasons.proofs.Rooms.{none_passes}
use Rattle.pb_reasons.proofs.room.leave_room_for_any_voter.Goals as goal

pub returns : goal.returns
returns c =
    none_passes (λ (v : VoterView). list_any (leave_room_for c.args.winners.now c.args.left) v.ballot) c.args.voters.now c.loop-voter.voter-index
    (omega (arith, c.loop-voter-test.false)) c.loop-voter.invariant
