-- The fields behind a row's own ones; private contracts speak of them.
use Rattle.std.specs.Prelude.{ℕ, List, [], map, slice_get, slice_index_or, string_bytes}
use Rattle.std.specs.FinMap as finite
use Rattle.std.specs.List.{range_with_len}
use Rattle.std.specs.Option.{option_and_then}
use Rattle.pb_rows.specs.Reading.{Fields}
use Rattle.pb_export.specs.FileRows.{below}
use Rattle.pb_export.specs.declared.behind.Behind.{Behind}
use Rattle.pb_export.specs.declared.further.Further.{Further}

-- the one below the column at a place
abbrev pub field_of : Behind → ℕ → List ℕ
field_of b place = slice_index_or (map string_bytes b.fields.now) place []

-- one for each column
abbrev pub behind : Behind → Fields
behind b = map (field_of b) (range_with_len 0 b.columns)

-- those of the project at a place
abbrev pub of_project : Further → ℕ → Fields
of_project f place = below f.project_names (slice_get f.projects.items place)

-- those of the voter with this id
abbrev pub of_voter : Further → List ℕ → Fields
of_voter f id = below f.voter_names (option_and_then (slice_get f.voters.items) (finite.get f.places id))
