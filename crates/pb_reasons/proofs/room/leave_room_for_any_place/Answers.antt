use Rattle.std.proofs.Common.{arith}
use Rattle.pb_reasons.specs.Inner.Raises.{leave_room_for}
use Rattle.pb_reasons.proofs.Rooms.{none_passes}
use Rattle.pb_reasons.proofs.room.leave_room_for_any_place.Goals as goal

pub returns : goal.returns
returns c =
    none_passes (leave_room_for c.args.winners.now c.args.left) c.args.places.now c.loop-place.place-index
    (omega (arith, c.loop-place-test.false)) c.loop-place.invariant
