-- The row of a desk.
use Rattle.std.specs.Prelude.{[], ◌∷◌, codes, decimal, length, if◌then◌else◌}
use Rattle.pb_desk.specs.Desk.{DeskView, standing_of}
use Rattle.pb_rows.specs.Reading.{Fields}

-- the row of a desk: how many entries its journal has, and whether it is shut
abbrev pub entries_row : DeskView → Fields
entries_row d =
    codes "entries" ∷ decimal (length d.journal)
    ∷ (if (standing_of d).is_shut then codes "shut" else codes "open") ∷ []
