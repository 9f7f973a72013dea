-- Where a desk has no room.
use Rattle.std.specs.Prelude.{◌≡◌, ◌⊎◌, ◌<◌, ◌≤◌, ◌+◌, ◌^◌, ◌++◌, List, length}
use Rattle.pb_core.specs.Request.{EntryView}
use Rattle.pb_desk.specs.Desk.{DeskView}
use Rattle.pb_desk.specs.Rows.{journal_text}

-- at some entry the journal, or its file, had no room for a batch more
abbrev pub HasNoRoom : DeskView → Type 0
HasNoRoom d = (early more : List EntryView) × (d.journal ≡ early ++ more)
    × ((d.room < length early + 4096) ⊎ (2 ^ 60 ≤ length (journal_text d.opening.version early)))
