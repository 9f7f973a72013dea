use Rattle.std.proofs.Common.{arith}
use Rattle.pb_desk.proofs.ballot_box.BallotBox.close.Goals as goal

pub closed-requires-clause-standing : goal.closed-requires-clause-standing
closed-requires-clause-standing g c = c.requires

pub closed-requires-clause-empty : goal.closed-requires-clause-empty
closed-requires-clause-empty g c = c.in-Ok.ensures.items

pub closed-requires-clause-room : goal.closed-requires-clause-room
closed-requires-clause-room g c =
    let room = c.in-Ok.ensures.capacity in
    omega (arith, room)

pub returns-in-Ok-clause-ok : goal.returns-in-Ok-clause-ok
returns-in-Ok-clause-ok g c = c.closed.ensures
