use Rattle.std.proofs.Common.{sym, ◌∙◌, arith}
use Rattle.pb_reasons.specs.Inner.Raises.{leave_room_for}
use Rattle.pb_reasons.proofs.Rooms.{no_number_passes, one_number_passes}
use Rattle.pb_reasons.proofs.room.leave_room_for_any_project.Goals as goal

pub returns-then-leave_room_for : goal.returns-then-leave_room_for
returns-then-leave_room_for c =
    one_number_passes (leave_room_for c.args.winners.now c.args.left) c.args.projects c.loop-place.place c.loop-place-test.true
    (sym c.leave_room_for.ensures ∙ c.if-leave_room_for.true)

pub returns : goal.returns
returns c =
    no_number_passes (leave_room_for c.args.winners.now c.args.left) c.args.projects c.loop-place.place (omega (arith, c.loop-place-test.false)) c.loop-place.invariant
