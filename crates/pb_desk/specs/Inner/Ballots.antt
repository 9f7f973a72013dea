-- Whether a voter has a ballot.
use Rattle.std.specs.Prelude.{ℕ, Bool, List, is_some}
use Rattle.std.specs.Map.{lookup}
use Rattle.std.specs.Str.{bytes_eq}

-- the voter has a ballot
abbrev pub has_ballot : List (List ℕ × List ℕ) → List ℕ → Bool
has_ballot ballots voter = is_some (lookup (bytes_eq voter) ballots)
