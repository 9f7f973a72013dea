use Rattle.std.proofs.Common.{arith}
use Rattle.pb_shared.proofs.Calls.{reads_front}
use Rattle.pb_shared.proofs.Offers.{clerk_sits, loads_at}
use Rattle.pb_shared.proofs.shared_desk.SharedDesk.front.Goals as goal

pub load-requires : goal.load-requires
load-requires c = let words = c.self.invariant.words in
    (clerk_sits _ _ _ c.clerk.inside.seat.me _ _ c.clerk.view_is c.requires.own c.self.view_is, omega arith, loads_at c.self.inside.table.shared.key _ _ _ c.clerk.invariant.role)

pub returns-clause-front : goal.returns-clause-front
returns-clause-front c = reads_front c.clerk.inside.seat.table_id c.clerk.inside.seat.me c.load.new.seat.me c.args.clerk.now c.args.self.now c.load.result c.clerk.view_is c.requires.own c.load.ensures.2.1
