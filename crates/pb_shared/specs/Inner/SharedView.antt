-- A shared desk, read off its table.
use Rattle.atomic_table.specs.Seated.{TableId}
use Rattle.pb_shared.specs.Clerk.{SharedView}
use Rattle.pb_shared.specs.declared.seat_view.About.{About}

abbrev pub shared_view : TableId → About → SharedView
shared_view id a = record { id = id; start = a.desk.value; clerks = a.clerks }
