-- The places of ids; private contracts speak of it.
use Rattle.std.specs.FinMap.{get}
use Rattle.std.specs.Prelude.{◌≡◌, ◌&&◌, ◌||◌, ◌==◌, not, ℕ, Bool, List, Option, is_none, position}
use Rattle.std.specs.List.{slice_split}
use Rattle.std.specs.Str.{bytes_eq, trim}
use Rattle.pb_ids.specs.Inner.Places.{Places}
use Rattle.pb_read.specs.Rows.{is_empty}
use Rattle.pb_read.specs.Voting.{is_among}

-- the place of a text among these ids
abbrev pub place_in : List (List ℕ) → List ℕ → Option ℕ
place_in ids text = position (bytes_eq text) ids

-- the places that are known are those of these ids
abbrev pub Finds : Places → List (List ℕ) → Type 0
Finds known ids = (text : List ℕ) → get known text ≡ place_in ids text

-- a piece of a vote is neither empty nor an id that is known
abbrev pub is_unknown : Places → List ℕ → Bool
is_unknown known piece = not (is_empty (trim piece)) && is_none (get known (trim piece))

-- the first of the pieces between a vote's commas (code 44), from 0, that is neither empty nor one of these ids
abbrev pub unknown_piece : List (List ℕ) → List ℕ → Option ℕ
unknown_piece ids vote =
    position (λ piece. not (is_empty (trim piece) || is_among ids (trim piece))) (slice_split (λ b. b == 44) vote)
