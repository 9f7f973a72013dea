use Rattle.std.proofs.Common.{◌≤◌, length, drop}
use Rattle.std.specs.Vec.{vec_capacity}
use Rattle.pb_desk.specs.Inner.Legal.{voters_of}
use Rattle.pb_desk.specs.Inner.Slots.{filed}
use Rattle.pb_desk.specs.Inner.Sources.{ballots_at}
use Rattle.pb_desk.proofs.Closings.{IsSoFar}
use Rattle.pb_desk.proofs.ballot_list.BallotList.take_voters.Given as goal

abbrev pub invariant-loop-slot : goal.invariant-loop-slot
invariant-loop-slot g l =
    IsSoFar l.fn.opening.items (voters_of (ballots_at l.fn.opening.items l.fn.journal.items (filed l.slots))) l.turned.items l.journal.items l.voters.items
    (filed (drop l.slot-index l.slots))
    × (length (filed l.slots) ≤ vec_capacity l.voters)
