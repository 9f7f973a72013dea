-- What contracts see of a seat at the table.
use Rattle.std.specs.Prelude.{Option}
use Rattle.atomic_table.specs.Seated.{TableId}
use Rattle.atomic_table.specs.Table.{Me}
use Rattle.pb_desk.specs.Desk.{DeskView}
use Rattle.pb_shared.specs.Clerk.{ClerkView}
use Rattle.pb_shared.specs.declared.seat_view.SeatView.{SeatView}

abbrev pub clerk_view : TableId → Me (Option DeskView) SeatView → ClerkView
clerk_view id m = let a = m.0.about in
    record { desk = record { id = id; start = a.desk.value; clerks = a.clerks }; sheet = m.0.sheet }
