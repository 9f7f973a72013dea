-- A desk with another journal.
use Rattle.std.specs.Prelude.{List}
use Rattle.pb_core.specs.Request.{EntryView}
use Rattle.pb_desk.specs.Desk.{DeskView}

-- the same desk with this journal
abbrev pub desk_with : DeskView → List EntryView → DeskView
desk_with start journal = record start { journal = journal }
