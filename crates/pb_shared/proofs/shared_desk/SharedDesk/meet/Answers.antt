use Rattle.std.proofs.Common.{ap, subst, ◌∙◌, arith}
use Rattle.pb_shared.specs.Clerk.{Reads}
use Rattle.pb_shared.specs.Seats.{clerk_view}
use Rattle.pb_shared.proofs.Calls.{reads_front}
use Rattle.pb_shared.proofs.SeatSteps.{tells}
use Rattle.pb_shared.proofs.Offers.{clerk_sits, loads_at}
use Rattle.pb_shared.proofs.shared_desk.SharedDesk.meet.Goals as goal

pub join_seat-requires : goal.join_seat-requires
join_seat-requires c = let words = c.self.invariant.words in (
  clerk_sits _ _ _ c.clerk.inside.seat.me _ _ c.clerk.view_is c.requires.own c.self.view_is,
  clerk_sits _ _ _ c.note.inside.seat.me _ _ c.note.view_is c.requires.note c.self.view_is,
  c.note.invariant.1,
  omega arith,
  tells c.self.inside.table.shared.key _ _ _ _ c.clerk.invariant.role c.note.invariant.0,
)

pub load-requires : goal.load-requires
load-requires c = let words = c.self.invariant.words in (
  c.join_seat.ensures.0 ∙ clerk_sits _ _ _ c.clerk.inside.seat.me _ _ c.clerk.view_is c.requires.own c.self.view_is,
  omega arith,
  loads_at c.self.inside.table.shared.key _ _ _ (ap (λ m. m.0.role) c.join_seat.ensures.2 ∙ c.clerk.invariant.role),
)

pub returns-clause-clerk : goal.returns-clause-clerk
returns-clause-clerk c =
    let told = c.join_seat.ensures in
    let front =
    reads_front c.join_seat.new.seat.table_id c.join_seat.new.seat.me c.load.new.seat.me c.args.clerk.now c.args.self.now c.load.result ((λ i. clerk_view (told.0 i) (told.2 i)) ∙ c.clerk.view_is) c.requires.own c.load.ensures.2.1 in
    subst (λ n. Reads c.args.self.now c.args.clerk.now.sheet n c.load.new.seat.me.0.sheet) front.1 front
