-- The projects that a vote names.
use Rattle.std.specs.Prelude.{ℕ, Bool, not, List, [], map, filter, length, ◌==◌}
use Rattle.std.specs.List.{list_any, list_all, slice_split, slice_index_or, range_with_len}
use Rattle.std.specs.Str.{trim, bytes_eq}
use Rattle.pb_read.specs.Rows.{is_empty}

-- the pieces of a vote between commas (code 44), trimmed, without the empty ones
abbrev pub pieces_of : List ℕ → List (List ℕ)
pieces_of vote = filter (λ piece. not (is_empty piece)) (map trim (slice_split (λ b. b == 44) vote))

-- a text is one of these ids
abbrev pub is_among : List (List ℕ) → List ℕ → Bool
is_among ids text = list_any (bytes_eq text) ids

-- every piece of a vote is a project's id
abbrev pub names_only : List (List ℕ) → List ℕ → Bool
names_only ids vote = list_all (is_among ids) (pieces_of vote)

-- the places, rising from 0, of the ids that a vote names
abbrev pub ballot_of : List (List ℕ) → List ℕ → List ℕ
ballot_of ids vote =
    filter (λ place. is_among (pieces_of vote) (slice_index_or ids place [])) (range_with_len 0 (length ids))
