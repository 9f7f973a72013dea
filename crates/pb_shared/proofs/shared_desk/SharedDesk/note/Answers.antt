use Rattle.std.proofs.Common.{arith}
use Rattle.pb_shared.proofs.SeatSteps.{writes}
use Rattle.pb_shared.proofs.Offers.{clerk_sits}
use Rattle.pb_shared.proofs.shared_desk.SharedDesk.note.Goals as goal

pub split_seat-requires : goal.split_seat-requires
split_seat-requires c = let words = c.self.invariant.words in
    (clerk_sits _ _ _ c.clerk.inside.seat.me _ _ c.clerk.view_is c.requires.own c.self.view_is, omega arith, writes c.self.inside.table.shared.key _ _ c.clerk.invariant.role)
