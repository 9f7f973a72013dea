-- Which entry gave a ballot, and what is asked for of the table of ballots.
use Rattle.std.specs.Prelude.{◌≡◌, ℕ, Bool, true, false, List, [], Option, map, slice_index_or}
use Rattle.std.specs.List.{join_with_byte}
use Rattle.std.specs.Option.{option_map_or}
use Rattle.std.specs.Str.{bytes_eq}
use Rattle.pb_core.specs.Request.{EntryView}
use Rattle.pb_desk.specs.Desk.{DeskView}
use Rattle.pb_commands.specs.Audited.{IsDeskOf}
use Rattle.pb_commands.specs.Ballots.{given_to}

-- the entry gave this voter a ballot
abbrev pub gave : List ℕ → EntryView → Bool
gave voter x = option_map_or (bytes_eq voter) (given_to x.answer x.request) false

-- the ids at these places, with `,` between two
abbrev pub ids_text : List (List ℕ) → List ℕ → List ℕ
ids_text ids places = join_with_byte 44 (map (λ place. slice_index_or ids place []) places)

-- the row of this ballot is asked for
abbrev pub is_asked : Option (List ℕ) → List ℕ × List ℕ → Bool
is_asked voter b = option_map_or (bytes_eq b.0) voter true

-- what these bytes make a run of `ballots` write: this table of their desk
abbrev pub BallotsWrites : (DeskView → List ℕ) → List ℕ → List ℕ → List ℕ → Type 0
BallotsWrites table bytes journal text = (d : DeskView) × IsDeskOf bytes journal d × (text ≡ table d)
