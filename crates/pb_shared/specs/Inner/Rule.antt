-- What a seat knows, the history, and the seats with which a table begins.
use Rattle.std.specs.Prelude.{false, List, [], ◌++◌, Option}
use Rattle.atomic_table.specs.Table.{Me}
use Rattle.pb_shared.specs.Inner.Desk.{desk_with}
use Rattle.pb_core.specs.Request.{EntryView}
use Rattle.pb_desk.specs.Desk.{DeskView}
use Rattle.pb_shared.specs.Clerk.{new_sheet}
use Rattle.pb_shared.specs.declared.seat_view.About.{About}
use Rattle.pb_shared.specs.declared.seat_view.Role.{Role}
use Rattle.pb_shared.specs.declared.seat_view.Role.TheVariants.{Stock}
use Rattle.pb_shared.specs.declared.seat_view.SeatView.{SeatView}
use Rattle.pb_shared.specs.declared.seat_view.Sheet.{Sheet}

-- what a seat knows, and what it has taken out of the slot
abbrev pub Sitter : Type 0
Sitter = Me (Option DeskView) SeatView

-- the one history: the journal at the start, and what was served since
abbrev pub history : About → List EntryView → List EntryView
history a later = a.desk.value.journal ++ later

-- the desk with that history as its journal
abbrev pub desk_after : About → List EntryView → DeskView
desk_after a later = desk_with a.desk.value (history a later)

-- a seat that knows this sheet, and does not hold the lock
abbrev pub seated : Role → About → Sheet → SeatView
seated role a sheet =
    record { role = role; about = a; sheet = sheet; holds = false; home = false; told = []; returned = [] }

-- the first seat, with all clerks in stock
abbrev pub stock : About → SeatView
stock a = seated Stock a (new_sheet a.desk.value.journal 0)
